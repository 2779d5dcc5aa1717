pub mod References
pub mod OldParts
pub mod SetCards
pub mod Entries
pub mod Scans
