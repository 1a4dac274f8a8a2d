mod AlphaLemmas
mod CellLemmas
mod LightTable
mod PageLemmas
mod RedLemmas
mod RedTable
mod SlideLemmas
mod ValidLemmas
pub mod WeightLemmas
