pub mod FoundItems
pub mod ListedItems
pub mod Lists
pub mod StretchRows
pub mod Sizes
pub mod TakenItems
