pub mod DoneLemmas
pub mod TakenLemmas
