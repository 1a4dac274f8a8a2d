mod CoordinateLemmas
mod GapLemmas
mod SaturationLemmas
