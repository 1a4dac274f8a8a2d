pub mod CellLemmas
pub mod ClearLemmas
pub mod JudgedLemmas
pub mod OneLemmas
pub mod PlaceLemmas
pub mod ReadyLemmas
pub mod StableLemmas
