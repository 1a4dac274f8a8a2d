pub mod FlagLemmas
pub mod LeadLemmas
pub mod SeenLemmas
pub mod TrackedLemmas
