pub mod Colours
pub mod Words
