pub mod CellSteps
pub mod PassSteps
pub mod AnswerSteps
