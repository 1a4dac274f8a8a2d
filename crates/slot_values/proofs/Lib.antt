pub mod ChannelLemmas
pub mod MixLemmas
pub mod RangeLemmas
pub mod RoundingLemmas
pub mod StillLemmas
