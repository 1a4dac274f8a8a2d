mod DivisorLemmas
mod HoldsLemmas
mod NestedLemmas
mod ScaleLemmas
