pub mod DefaultOptions
pub mod FullCollection
