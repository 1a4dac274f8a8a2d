pub mod EvenLemmas
