pub mod ClosingLemmas
pub mod ListLemmas
pub mod NameLemmas
pub mod TableLemmas
