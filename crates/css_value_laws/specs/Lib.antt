pub mod SpelledLists
pub mod SpelledNames
