pub mod Bounds
pub mod Pushing
pub mod Rows
pub mod Starts
