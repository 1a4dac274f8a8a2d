pub mod CourseLemmas
pub mod FoundLemmas
pub mod NamedLemmas
pub mod PlainLemmas
pub mod ValueLemmas
