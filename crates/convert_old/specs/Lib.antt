pub mod OldFile
