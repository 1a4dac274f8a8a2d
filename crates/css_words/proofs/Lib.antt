pub mod DigitLemmas
pub mod GivenLemmas
pub mod ShareLemmas
pub mod SignLemmas
pub mod TableLemmas
