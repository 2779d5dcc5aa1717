pub mod Faults
pub mod Memory
pub mod MemoryViews
pub mod Codes
pub mod Reading
