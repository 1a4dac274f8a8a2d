pub mod SpelledLonghands
pub mod SpelledShorthand
pub mod Spelling
