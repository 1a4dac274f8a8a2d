pub mod CountLemmas
pub mod FormLemmas
pub mod Hex
pub mod LookLemmas
pub mod NewlineLemmas
pub mod ReadLemmas
pub mod Shape
