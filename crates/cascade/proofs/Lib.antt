pub mod PaintingLemmas
pub mod ResolvingLemmas
pub mod SceneLemmas
pub mod SourceLemmas
pub mod TableLemmas
pub mod ValidLemmas
