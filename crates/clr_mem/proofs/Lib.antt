pub mod Digits
pub mod Spelling
pub mod Between
pub mod Callers
pub mod Inside
pub mod Overwriting
pub mod Padding
pub mod Paging
