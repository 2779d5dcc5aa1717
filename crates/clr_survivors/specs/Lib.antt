pub mod Condemned
pub mod Large
pub mod Pins
pub mod Phases
pub mod Roots
pub mod Survivors
pub mod Moving
