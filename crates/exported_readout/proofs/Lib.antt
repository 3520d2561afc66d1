pub mod ProgressWritten
