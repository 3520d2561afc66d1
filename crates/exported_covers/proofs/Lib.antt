pub mod CoveringWritten
