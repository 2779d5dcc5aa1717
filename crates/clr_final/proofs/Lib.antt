pub mod PeakSteps
pub mod JudgeSteps
pub mod MoveSteps
pub mod ListLaws
