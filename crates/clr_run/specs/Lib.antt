pub mod Images
pub mod Opens
