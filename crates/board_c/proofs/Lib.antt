pub mod BoardWritten
