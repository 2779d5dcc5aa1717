pub mod SaidRuns
pub mod Statuses
pub mod MadeImages
pub mod Openings
