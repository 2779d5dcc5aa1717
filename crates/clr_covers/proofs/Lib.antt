pub mod Finding
pub mod Changing
pub mod Spans
pub mod Values
pub mod Filling
