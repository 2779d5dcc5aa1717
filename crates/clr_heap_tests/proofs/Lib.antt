pub mod Opening
pub mod FirstContext
pub mod FrontItems
