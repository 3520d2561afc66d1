pub mod SameClause
pub mod Cases
