pub mod DeclarationLemmas
pub mod ItemLemmas
pub mod LonghandLemmas
pub mod PartLemmas
pub mod SlotLemmas
pub mod StepLemmas
pub mod TableLemmas
pub mod TakeLemmas
