pub mod Lines
pub mod Fronts
pub mod Outcomes
pub mod CommandKinds
