pub mod FoldLemmas
pub mod OrderLemmas
pub mod OriginLemmas
pub mod SlotLemmas
pub mod WinningLemmas
