pub mod MarkedThenWritten
