pub use Rattle.witness_text.specs.TintText
pub use Rattle.witness_text.specs.WitnessForm
pub use Rattle.witness_text.specs.WitnessText
pub use Rattle.witness_checks.specs.Faults
pub use Rattle.witness_checks.specs.Judgement
pub use Rattle.witness_laws.specs.Acceptance
