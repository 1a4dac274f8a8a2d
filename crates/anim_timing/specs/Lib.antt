pub mod Iterations
pub mod Timed
pub mod Views
