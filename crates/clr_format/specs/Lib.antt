pub mod HeapFields
pub mod Images
pub mod NameTests
pub mod Saved
pub mod TableFields
pub mod Laws
