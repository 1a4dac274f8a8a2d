pub mod CauseLemmas
pub mod DecidedTintLemmas
pub mod ExactPageLemmas
pub mod SingleLemmas
