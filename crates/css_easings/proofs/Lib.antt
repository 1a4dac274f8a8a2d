pub mod PointLemmas
pub mod ValidEasings
