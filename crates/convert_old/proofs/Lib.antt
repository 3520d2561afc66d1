pub mod DatedRecords
pub mod OldWritten
