pub mod Entries
pub mod Quiet
