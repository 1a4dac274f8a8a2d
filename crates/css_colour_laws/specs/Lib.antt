pub mod SpelledColours
