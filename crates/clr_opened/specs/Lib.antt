pub mod Opened
pub mod Fronts
pub mod Laws
