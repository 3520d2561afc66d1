pub mod WindowLaws
pub mod WindowRead
