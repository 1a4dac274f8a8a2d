pub mod EndLemmas
pub mod ListLemmas
pub mod PickLemmas
pub mod ShownLemmas
pub mod StateLemmas
pub mod StraightLemmas
