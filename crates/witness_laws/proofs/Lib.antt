pub mod AreaLemmas
pub mod WitnessLemmas
pub mod WrongLemmas
