pub mod SpelledEasings
