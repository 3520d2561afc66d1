pub mod FieldsMarked
pub mod Down
