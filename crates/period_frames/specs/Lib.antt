pub mod Multiples
pub mod Needed
pub mod Periods
pub mod Repeats
pub mod Settling
pub mod Windows
