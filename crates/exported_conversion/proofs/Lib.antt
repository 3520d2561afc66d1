pub mod ConversionWritten
