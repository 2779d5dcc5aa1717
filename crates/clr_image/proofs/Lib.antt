pub mod FoundAgain
pub mod Migration
pub mod Shifted
pub mod ShiftedHeap
pub mod ImageMachines
pub mod ShownTexts
