pub mod Cuts
pub mod Readings
pub mod Choices
pub mod ReplyLines
pub mod Fronts
pub mod Made
