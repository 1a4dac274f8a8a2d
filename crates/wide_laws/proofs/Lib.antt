pub mod DecidedLemmas
pub mod HeldTintLemmas
pub mod LooseLemmas
pub mod PaintLemmas
pub mod WideKindLemmas
pub mod WideLemmas
