pub mod LengthLemmas
