pub mod ClosedField
