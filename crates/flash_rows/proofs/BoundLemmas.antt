-- Bounds of the last tints: with a tint more they are wider, and where the next tint is near all within them, no change leads to it.
use Rattle.std.proofs.Common.{ℕ, zero, suc, ◌≡◌, ◌∙◌, ◌+◌, ◌-◌, ◌<◌, ◌≤◌, Bool, true, false, List, [], ◌∷◌, ◌++◌, length, slice_get, Some, arith, inl, inr, refl, subst, sym, ap, length-append}
use Rattle.std.specs.Prelude.{max}
use Rattle.std.proofs.Math.Nat.{le-max_left, le-max_right}
use Rattle.std.proofs.lemmas.Bool.{cases_lt}
use Rattle.std.proofs.lemmas.Option.{slice_get_within}
use Rattle.page_model.specs.declared.colour.Tint.{Tint}
use Rattle.page_model.specs.Change.{AreFarBy, HasSaturated, greatest_gap, least_gap}
use Rattle.page_model.specs.Light.{luma_of}
use Rattle.srgb_luma.proofs.LumaLemmas.{luma_of_le}
use Rattle.tint_changes.specs.declared.changes.Change.{Change}
use Rattle.tint_changes.specs.declared.changes.Change.TheVariants.{PossibleRise, PossibleFall, SureRise, SureFall, PossiblyIntoRed, PossiblyOutOfRed, SurelyIntoRed, SurelyOutOfRed}
use Rattle.tint_changes.specs.declared.made.NextTint.{NextTint}
use Rattle.tint_changes.specs.Counting.{Makes, MakesAt}
use Rattle.tint_changes.specs.Made.{IsKnown}
use Rattle.flash_rows.specs.declared.bounds.Bounds.{Bounds}
use Rattle.flash_rows.specs.Bounds.{AreWithin, IsNearAll, LiesWithin, bounds_before, mark_with, widened}
use Rattle.flash_rows.specs.Rows.{EndsWith, StandsFor, opposite_of}
use Rattle.flash_rows.specs.Starts.{IsLatest}
use Rattle.flash_rows.proofs.ListLemmas.{slice_get-end, slice_get-front}
use Rattle.flash_rows.proofs.RedLemmas.{possible-saturated, sure-saturated}
use Rattle.flash_rows.proofs.RowLemmas.{at-made}
use Rattle.flash_rows.proofs.StartLemmas.{leads-forwards}

-- no tint within the bounds makes a change with a tint that is near all
none-made : (bounds : Bounds) (next : NextTint) (tint : Tint) → IsKnown next → IsNearAll bounds next → LiesWithin bounds tint
    → (change : Change) → Makes change tint next.tint → ⊥
none-made bounds next tint known near lies PossibleRise made =
    let below = (known.rise (luma_of tint.lo)).1 (made.from_below, made.by_a_tenth) in omega (arith, below, near.rise, lies.lower_least)
none-made bounds next tint known near lies PossibleFall made =
    let above = (known.fall (luma_of tint.hi) (luma_of_le tint.hi)).1 (made.from_below, made.by_a_tenth) in
    omega (arith, above, near.fall, lies.upper_most)
none-made bounds next tint known near lies SureRise made =
    let below = (known.sure_rise (luma_of tint.hi)).1 (made.from_below, made.by_a_tenth) in omega (arith, below, near.sure_rise, lies.upper_least)
none-made bounds next tint known near lies SureFall made =
    let above = (known.sure_fall (luma_of tint.lo) (luma_of_le tint.lo)).1 (made.from_below, made.by_a_tenth) in
    omega (arith, above, near.sure_fall, lies.lower_most)
none-made bounds next tint known near lies PossiblyIntoRed made =
    let is : next.is_red ≡ true = known.red.1 (possible-saturated (AreFarBy greatest_gap) tint next.tint next.tint made) in cc (is, near.next_pale)
none-made bounds next tint known near lies PossiblyOutOfRed made =
    lies.pale near.pale (possible-saturated (AreFarBy greatest_gap) tint next.tint tint made)
none-made bounds next tint known near lies SurelyIntoRed made =
    let is : next.is_red ≡ true = known.red.1 (sure-saturated (AreFarBy least_gap) tint next.tint next.tint made) in cc (is, near.next_pale)
none-made bounds next tint known near lies SurelyOutOfRed made =
    lies.pale near.pale (sure-saturated (AreFarBy least_gap) tint next.tint tint made)

-- the bounds before the next frame hold the last tints
pub within-before : (rate turn : ℕ) (tints : List Tint) (row : List ℕ) → length tints ≡ turn → StandsFor rate tints row
    → AreWithin rate tints (bounds_before rate row turn)
within-before rate zero tints row count stands frame tint there near =
    let inside = slice_get_within tints frame tint there in absurd (omega arith)
within-before rate (suc turn) tints row count stands frame tint there near = stands.within frame tint there near

-- so where the next one is near all, no chain ends there
pub near-none : (rate turn : ℕ) (tints : List Tint) (tint : Tint) (row : List ℕ) (next : NextTint) (change : Change) (n number : ℕ)
    → length tints ≡ turn → StandsFor rate tints row → next.tint ≡ tint → IsKnown next → IsNearAll (bounds_before rate row turn) next
    → number ≡ rate + 1 → IsLatest (EndsWith change (tints ++ tint ∷ []) (suc n) turn) rate turn number
near-none rate turn tints tint row next change n number count stands same known near is =
    let all : List Tint = tints ++ tint ∷ [] in record {
      capped = omega (arith, is);
      there = λ few. absurd (omega (arith, is));
      latest = λ start (middle, before, made, leads) close.
          let forwards = leads-forwards (MakesAt (opposite_of change) all) (MakesAt change all) n start middle leads in
          let here = subst (λ k. MakesAt change all middle k) (sym count) made in
          absurd (never middle (omega (arith, count)) (omega (arith, count)) here);
    } where
      never : (middle : ℕ) → middle < length tints → length tints ≤ middle + rate → MakesAt change (tints ++ tint ∷ []) middle (length tints) → ⊥
      never middle inside near_by made =
          let there : slice_get tints middle ≡ Some made.earlier =
          sym (slice_get-front tints (tint ∷ []) middle inside) ∙ made.is_earlier in
          let makes = at-made change tints tint made.earlier middle there made in
          none-made (bounds_before rate row turn) next made.earlier known near (within-before rate turn tints row count stands middle made.earlier there near_by)
          change (subst (λ (t : Tint). Makes change made.earlier t) (sym same) makes)

-- a tint within bounds lies within wider ones
lies-wider : (bounds : Bounds) (next : NextTint) (tint : Tint) → LiesWithin bounds tint → LiesWithin (widened bounds next) tint
lies-wider bounds next tint lies = record {
  lower_least = omega (arith, lies.lower_least);
  upper_least = omega (arith, lies.upper_least);
  lower_most = let more = le-max_left bounds.greatest (max (luma_of next.tint.lo) (luma_of next.tint.hi)) in omega (arith, lies.lower_most);
  upper_most = let more = le-max_left bounds.greatest (max (luma_of next.tint.lo) (luma_of next.tint.hi)) in omega (arith, lies.upper_most);
  pale = marked next.is_red lies.pale;
} where
  marked : (is_red : Bool) → (bounds.mark ≡ 0 → HasSaturated tint → ⊥) → mark_with is_red bounds.mark ≡ 0 → HasSaturated tint → ⊥
  marked true pale none = absurd (omega (arith, none))
  marked false pale none = pale none

-- and the next tint does
lies-next : (bounds : Bounds) (next : NextTint) → IsKnown next → LiesWithin (widened bounds next) next.tint
lies-next bounds next known =
    let least : ℕ = luma_of next.tint.lo in
    let greatest : ℕ = luma_of next.tint.hi in
    let more = le-max_right bounds.greatest (max least greatest) in
    let first = le-max_left least greatest in
    let second = le-max_right least greatest in record {
      lower_least = omega arith;
      upper_least = omega arith;
      lower_most = omega arith;
      upper_most = omega arith;
      pale = pale next.is_red refl;
    } where
      pale : (is_red : Bool) → next.is_red ≡ is_red → mark_with is_red bounds.mark ≡ 0 → HasSaturated next.tint → ⊥
      pale true is none has = absurd (omega (arith, none))
      pale false is none has = let red : next.is_red ≡ true = known.red.1 has in cc (red, is)

pub within-more : (rate : ℕ) (tints : List Tint) (tint : Tint) (bounds : Bounds) (next : NextTint) → next.tint ≡ tint → IsKnown next
    → AreWithin rate tints bounds → AreWithin rate (tints ++ tint ∷ []) (widened bounds next)
within-more rate tints tint bounds next same known within frame other there near =
    let count : length (tints ++ tint ∷ []) ≡ length tints + 1 = length-append tints (tint ∷ []) in
    elim (cases_lt frame (length tints)) [
      | inl early ↦
          lies-wider bounds next other
          (within frame other (sym (slice_get-front tints (tint ∷ []) frame early) ∙ there) (omega (arith, count)))
      | inr late ↦
          let inside = slice_get_within (tints ++ tint ∷ []) frame other there in
          let at : length tints ≡ frame = omega (arith, count) in
          let is : tint ≡ other = cc (slice_get-end tints tint, ap (λ k. slice_get (tints ++ tint ∷ []) k) at ∙ there) in
          subst (λ (t : Tint). LiesWithin (widened bounds next) t) (same ∙ is) (lies-next bounds next known)
    ]

-- a tint that the frame before has too needs no wider bounds
pub within-kept : (rate turn : ℕ) (tints : List Tint) (tint : Tint) (bounds : Bounds) → 1 ≤ rate → 0 < turn → length tints ≡ turn
    → slice_get tints (turn - 1) ≡ Some tint → AreWithin rate tints bounds → AreWithin rate (tints ++ tint ∷ []) bounds
within-kept rate turn tints tint bounds some later count before within frame other there near =
    let long : length (tints ++ tint ∷ []) ≡ length tints + 1 = length-append tints (tint ∷ []) in
    elim (cases_lt frame (length tints)) [
      | inl early ↦
          within frame other (sym (slice_get-front tints (tint ∷ []) frame early) ∙ there) (omega (arith, long))
      | inr late ↦
          let inside = slice_get_within (tints ++ tint ∷ []) frame other there in
          let at : length tints ≡ frame = omega (arith, long) in
          let is : tint ≡ other = cc (slice_get-end tints tint, ap (λ k. slice_get (tints ++ tint ∷ []) k) at ∙ there) in
          subst (λ (t : Tint). LiesWithin bounds t) is (within (turn - 1) tint before (omega (arith, count)))
    ]
