pub mod MergeWritten
