pub mod SpelledNumbers
pub mod SpelledWords
pub mod ValueLaws
