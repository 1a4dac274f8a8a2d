-- Whether a part is painted evenly: each box is painted as surely at all of its pixels as at the first one. That is so where no place at
-- which the box may begin or end cuts the part.
use Rattle.std.specs.Prelude.{ℕ, ℤ, pos, ◌≡◌, ◌⊎◌, ◌+◌, ◌<◌, ◌≤◌, ◌<ℤ◌, ◌≤ℤ◌, ◌+ℤ◌}
use Rattle.page_model.specs.declared.colour.Tint.{Tint}
use Rattle.page_model.specs.declared.witness.Part.{Part}
use Rattle.page_model.specs.Enclosure.{Loose, LooseState, Sureness}
use Rattle.page_model.specs.TintOf.{both, covers_surely}
use Rattle.page_model.specs.WitnessConditions.{IsOfPart}

-- an edge cuts so many places from a start on: it lies behind the first of them, and before their end
pub record Cuts (edge : ℤ) (start extent : ℕ) : Type 0 where
  pub behind : pos start <ℤ edge
  pub before : edge <ℤ pos (start + extent)

-- neither the first nor the last place at which a box may begin cuts them, nor those at which it may end
pub record CutsNowhere (from size : Loose) (start extent : ℕ) : Type 0 where
  pub first_begin : Cuts from.lo start extent → ⊥
  pub last_begin : Cuts from.hi start extent → ⊥
  pub first_end : Cuts (from.lo +ℤ size.lo) start extent → ⊥
  pub last_end : Cuts (from.hi +ℤ size.hi) start extent → ⊥

-- a box surely has none of them: they end before it may begin, or begin where it has ended
abbrev pub Misses : Loose → Loose → ℕ → ℕ → Type 0
Misses from size start extent = (pos (start + extent) ≤ℤ from.lo) ⊎ ((from.hi +ℤ size.hi) ≤ℤ pos start)

-- how surely a box is painted at a pixel
abbrev pub painted_surely : LooseState → ℕ → ℕ → Sureness
painted_surely state column row = both state.shown (covers_surely state column row)

-- a box is painted as surely at all pixels of a part as at the first one
abbrev pub IsPaintedEvenly : LooseState → Part → Type 0
IsPaintedEvenly state part = (column row : ℕ) → IsOfPart part column row → painted_surely state column row ≡ painted_surely state part.x part.y

-- so are the boxes below a number
abbrev pub ArePaintedEvenly : (ℕ → LooseState) → ℕ → Part → Type 0
ArePaintedEvenly states end part = (number : ℕ) → 1 ≤ number → number < end → IsPaintedEvenly (states number) part

-- all pixels of a part have a tint
abbrev pub AllHaveTint : (ℕ → ℕ → Tint) → Part → Tint → Type 0
AllHaveTint tint_at part tint = (column row : ℕ) → IsOfPart part column row → tint_at column row ≡ tint
