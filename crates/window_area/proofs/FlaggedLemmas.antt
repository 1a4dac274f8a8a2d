-- Numbers that grow or fall where they are flagged, one by one.
use Rattle.std.proofs.Common.{ℕ, Bool, false, List, ◌≡◌, ◌+◌, ◌<◌, ◌≤◌, get_or, length}
use Rattle.window_area.specs.Sliding.{only_if}

-- so for the numbers before one, and the others are as they were
pub record HasAdded (flags : List Bool) (amount band : ℕ) (old new : List ℕ) : Type 0 where
  pub same_length : length new ≡ length old
  pub before : (i : ℕ) → i < band → get_or new i 0 ≡ get_or old i 0 + only_if (get_or flags i false) amount
  pub after : (i : ℕ) → band ≤ i → get_or new i 0 ≡ get_or old i 0

pub record HasTaken (flags : List Bool) (amount band : ℕ) (old new : List ℕ) : Type 0 where
  pub same_length : length new ≡ length old
  pub before : (i : ℕ) → i < band → get_or new i 0 + only_if (get_or flags i false) amount ≡ get_or old i 0
  pub after : (i : ℕ) → band ≤ i → get_or new i 0 ≡ get_or old i 0
