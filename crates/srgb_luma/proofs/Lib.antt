pub mod CurveLemmas
pub mod GreatestLemmas
pub mod GrowthLemmas
pub mod LinearLemmas
pub mod LumaLemmas
mod TableLemmas
