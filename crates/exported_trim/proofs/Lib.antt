pub mod TrimWritten
