pub mod Kept
pub mod Paint
pub mod Seen
