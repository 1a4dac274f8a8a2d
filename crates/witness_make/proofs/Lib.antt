pub mod ClipLemmas
pub mod SameLemmas
pub mod TurnLemmas
pub mod PartLemmas
pub mod CellLemmas
pub mod FormLemmas
pub mod MadeLemmas
