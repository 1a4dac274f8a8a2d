pub mod MarkLemmas
pub mod SameLemmas
pub mod PartLemmas
pub mod JudgedLemmas
