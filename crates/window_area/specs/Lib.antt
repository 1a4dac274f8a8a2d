pub mod Edges
pub mod FlaggedArea
pub mod Sliding
