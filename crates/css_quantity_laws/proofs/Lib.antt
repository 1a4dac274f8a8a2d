pub mod MeasureLemmas
pub mod QuantityLemmas
