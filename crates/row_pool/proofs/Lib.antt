pub mod FreeLemmas
pub mod LendLemmas
pub mod RowLemmas
pub mod TakeLemmas
pub mod WriteLemmas
