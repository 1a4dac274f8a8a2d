pub mod SpelledQuantities
