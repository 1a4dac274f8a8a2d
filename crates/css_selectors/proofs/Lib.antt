pub mod JudgedReadings
pub mod JudgedSelectors
pub mod ReadingLemmas
pub mod SelectorLemmas
pub mod StuckFronts
pub mod StuckReadings
pub mod StuckSelectors
