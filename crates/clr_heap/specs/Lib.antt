pub mod Memories
pub mod Parts
pub mod View
pub mod Drafts
pub mod Filled
pub mod Walk
pub mod Laws
pub mod ObjectKinds
