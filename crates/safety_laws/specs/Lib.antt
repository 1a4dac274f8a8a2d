pub mod ComputedLaws
pub mod SafetyLaws
pub mod StillLaws
