pub mod EasingLemmas
pub mod EasingReadings
pub mod TableLemmas
