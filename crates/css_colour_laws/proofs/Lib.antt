pub mod ColourLemmas
pub mod TableLemmas
