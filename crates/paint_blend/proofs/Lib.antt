mod ExactLemmas
pub mod HeldLemmas
mod HideLemmas
pub mod KeptLemmas
pub mod OrderLemmas
mod ReadyLemmas
mod SeenLemmas
mod SpanLemmas
