pub mod Acceptance
pub mod WitnessLaws
pub mod WrongConditions
