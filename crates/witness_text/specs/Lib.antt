pub mod TintText
pub mod PartValue
pub mod WitnessText
pub mod WitnessForm
pub mod Look
