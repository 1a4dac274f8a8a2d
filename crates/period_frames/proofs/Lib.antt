pub mod ChosenLemmas
pub mod JoinLemmas
pub mod MultipleLemmas
pub mod NeededLemmas
pub mod SettledLemmas
pub mod SingleLemmas
pub mod WindowLemmas
