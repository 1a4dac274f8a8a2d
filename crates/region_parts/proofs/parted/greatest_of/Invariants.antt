-- The greatest of those so far, and 0 before the first.
use Rattle.std.proofs.Common.{ℕ, ◌≡◌, ◌⊎◌, ◌<◌, ◌≤◌}
use Rattle.region_parts.specs.Needs.{needed_in}
use Rattle.region_parts.proofs.parted.greatest_of.Given as goal

abbrev pub invariant-loop-horizon : goal.invariant-loop-horizon
invariant-loop-horizon l = record {
  most : (number : ℕ) → number < l.horizon-index → needed_in l.horizons number ≤ l.greatest;
  is_some : (l.greatest ≡ 0) ⊎ ((number : ℕ) × (number < l.horizon-index) × (needed_in l.horizons number ≡ l.greatest));
}
