pub mod CurveLemmas
pub mod ToldLemmas
