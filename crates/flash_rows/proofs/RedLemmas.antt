-- No change of red is made where no corner of either tint is saturated: a tint that has to be saturated has such a corner.
use Rattle.std.proofs.Common.{ℕ, List, false, inl, inr, refl}
use Rattle.page_model.specs.declared.colour.Tint.{Tint}
use Rattle.page_model.specs.Change.{AreFarBy, HasSaturated, IsPossiblyRed, IsSurelyRed, greatest_gap, least_gap}
use Rattle.page_model.specs.Red.{Chromaticity, IsSaturated}
use Rattle.flash_rows.specs.declared.latest.KindStarts.{KindStarts}
use Rattle.tint_changes.specs.declared.made.Made.{Made}
use Rattle.tint_changes.specs.Made.{MadeByRed}
use Rattle.flash_rows.specs.Pushing.{LoweredKind}

lower-corner : (tint : Tint) → IsSaturated tint.lo → HasSaturated tint
lower-corner tint is = (tint.lo, record { red = inl refl; green = inl refl; blue = inl refl }, is)

pub possible-saturated : (Far : Chromaticity → Chromaticity → Type 0) (a b red : Tint) → IsPossiblyRed Far a b red → HasSaturated red
possible-saturated Far a b red (inl far) = lower-corner red far.1
possible-saturated Far a b red (inr loose) = loose.1

pub sure-saturated : (Far : Chromaticity → Chromaticity → Type 0) (a b red : Tint) → IsSurelyRed Far a b red → HasSaturated red
sure-saturated Far a b red sure = lower-corner red sure.1

abbrev pub unmade : Made
unmade = record { up = false; down = false; surely_up = false; surely_down = false }

pub none-made : (from to : Tint) → (HasSaturated from → ⊥) → (HasSaturated to → ⊥) → MadeByRed from to unmade
none-made from to first second = record {
  up = ((λ told. absurd (cc told)), λ makes. absurd (second (possible-saturated (AreFarBy greatest_gap) from to to makes)));
  down = ((λ told. absurd (cc told)), λ makes. absurd (first (possible-saturated (AreFarBy greatest_gap) from to from makes)));
  surely_up = ((λ told. absurd (cc told)), λ makes. absurd (second (sure-saturated (AreFarBy least_gap) from to to makes)));
  surely_down = ((λ told. absurd (cc told)), λ makes. absurd (first (sure-saturated (AreFarBy least_gap) from to from makes)));
}

-- and where none is, all numbers stay
pub unmade-kept : (row : List ℕ) (start age : ℕ) (best : KindStarts) → LoweredKind unmade row start age best best
unmade-kept row start age best = record {
  up = inr ((λ told. cc told), refl);
  down = inr ((λ told. cc told), refl);
  surely_up = inr ((λ told. cc told), refl);
  surely_down = inr ((λ told. cc told), refl);
}
