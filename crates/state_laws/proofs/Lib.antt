pub mod ExamplePageLemmas
pub mod RunLemmas
pub mod UniqueLemmas
pub mod WrongSlotLemmas
