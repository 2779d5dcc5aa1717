pub mod AlikeTexts
pub mod ShownStates
pub mod NoContexts
