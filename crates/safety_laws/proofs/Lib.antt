pub mod BlinkingLemmas
pub mod ChannelLemmas
pub mod ComputedLemmas
pub mod CourseLemmas
pub mod RoundingLemmas
pub mod SafetyLemmas
pub mod StillLemmas
pub mod ValueLemmas
