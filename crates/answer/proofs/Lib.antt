pub mod AnswerLaws
pub mod GivenNumbers
