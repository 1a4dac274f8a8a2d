mod AroundLemmas
mod IntervalLemmas
pub mod StopLemmas
mod WholeLemmas
