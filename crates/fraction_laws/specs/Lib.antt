pub mod FractionLaws
pub mod IntervalLaws
pub mod OverallLaws
