pub mod AlikeLemmas
pub mod BlendLemmas
mod CloseLemmas
pub mod CourseLemmas
pub mod KindLemmas
pub mod MarginLemmas
pub mod NarrowLemmas
pub mod NestLemmas
pub mod TintLemmas
pub mod TintNestLemmas
pub mod WindowLemmas
