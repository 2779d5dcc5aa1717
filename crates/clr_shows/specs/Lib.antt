pub mod Kinds
pub mod Near
pub mod StatBounds
pub mod Stats
pub mod Younger
