pub mod ClosedFields
pub mod SixteenPlaced
