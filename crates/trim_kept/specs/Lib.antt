pub mod KeptRecords
