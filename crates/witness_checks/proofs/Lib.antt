pub mod FirstLemmas
pub mod JudgementLemmas
mod KeptLemmas
pub mod OneLemmas
mod OrderLemmas
pub mod OverlapLemmas
mod TintLemmas
pub mod TurnLemmas
