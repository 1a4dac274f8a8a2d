pub mod AreaLemmas
pub mod GroupLemmas
pub mod HomeLemmas
