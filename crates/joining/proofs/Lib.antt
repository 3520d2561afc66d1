pub mod FileJoined
