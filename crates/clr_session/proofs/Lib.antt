pub mod Outputs
pub mod LineLists
pub mod Feeds
pub mod SessionSteps
pub mod FirstLines
pub mod ScriptLoop
pub mod SoakLoop
pub mod SoakTexts
