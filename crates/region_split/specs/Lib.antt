pub mod Cutting
pub mod Marks
pub mod Moving
pub mod Sound
