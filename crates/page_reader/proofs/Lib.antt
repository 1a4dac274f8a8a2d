pub mod AttributeLemmas
pub mod GrammarLemmas
pub mod ElementLemmas
pub mod PageLemmas
pub mod NameLemmas
pub mod PageBody
pub mod PageOutcome
pub mod PagePlaces
