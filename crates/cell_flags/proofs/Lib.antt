pub mod RunLemmas
pub mod TrackLemmas
pub mod FlagLemmas
pub mod SideLemmas
pub mod AreaLemmas
