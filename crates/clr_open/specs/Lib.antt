pub mod Begun
pub mod Fit
pub mod Offsets
pub mod Read
