pub mod PieceLaws
pub mod UnitLaws
pub mod UnitWriting
pub mod UnitSizes
