pub mod ColourNames
pub mod Colours
