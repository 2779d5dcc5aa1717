pub mod Runs
pub mod Output
pub mod FrontLines
pub mod LineStretch
pub mod Progress
pub mod Sessions
pub mod Soak
