-- The latest starts of changes in turn: what a row of words keeps of the frames that went by.
use Rattle.std.specs.Prelude.{ℕ, zero, suc, ◌≡◌, ◌+◌, ◌<◌, ◌≤◌}

-- so many changes lead from a frame to a later one, in turn of the one sort and the other, the last of them of the first
abbrev pub Leads : (ℕ → ℕ → Type 0) → (ℕ → ℕ → Type 0) → ℕ → ℕ → ℕ → Type 0
Leads Last Other zero start end = start ≡ end
Leads Last Other (suc n) start end = (middle : ℕ) × (middle < end) × Last middle end × Leads Other Last n start middle

-- a number says how many frames before a frame the latest of some starts lies: it is one more than the window where none lies at
-- most a window before
pub record IsLatest (Starts : ℕ → Type 0) (window frame number : ℕ) : Type 0 where
  pub capped : number ≤ window + 1
  pub there : number ≤ window → (start : ℕ) × (start + number ≡ frame) × Starts start
  pub latest : (start : ℕ) → Starts start → frame ≤ start + window → start + number ≤ frame
