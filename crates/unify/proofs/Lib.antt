pub mod Answer
pub mod BindingsAdded
pub mod EachListed
pub mod PairWalk
