pub mod AllRoots
pub mod Held
pub mod Incoming
pub mod Numbers
pub mod Paths
