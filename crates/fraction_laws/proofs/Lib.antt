pub mod FractionLemmas
pub mod ListLemmas
pub mod OverallLemmas
pub mod SizeLemmas
pub mod SplitLemmas
pub mod StopLemmas
