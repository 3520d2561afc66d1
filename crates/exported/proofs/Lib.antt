pub mod AnswerWritten
pub mod ThreeStored
pub mod FormTold
