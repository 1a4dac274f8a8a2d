pub mod Keywords
pub mod NumeralViews
pub mod Numerals
pub mod Words
