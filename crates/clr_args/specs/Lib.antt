pub mod Budgets
pub mod Grammar
pub mod Parser
pub mod Reading
pub mod CommandLines
pub mod Laws
