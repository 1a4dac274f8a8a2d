-- Proofs of how the enclosures of eased values nest.
use Rattle.std.proofs.Common.{ℕ, ◌^◌, arith, inl, inr}
use Rattle.std.specs.Prelude.{ℤ, pos, neg_ℤ, ◌+ℤ◌, ◌-ℤ◌, ◌≤ℤ◌, ◌<ℤ◌}
use Rattle.std.proofs.lemmas.Int.{ints}
use Rattle.std.proofs.lemmas.Bool.{cases_Bool}
use Rattle.page_model.specs.declared.easing.Easing.TheVariants.{Linear, Steps, Cubic}
use Rattle.page_model.specs.Curve.{CurveReaches, Reaches, curve_height}
use Rattle.page_model.specs.Enclosure.{own, wide, own_scale, own_height, own_least, own_greatest, AllReachInside, SomeReachInside, AllReach, SomeReach, is_inner}
use Rattle.page_model.specs.Fraction.{Fraction}
use Rattle.curve_laws.specs.EnclosureLaws.{Follows, IntervalsNest, IsNear, EndsAreNear, FollowsFor, ReachesNest}
use Rattle.curve_laws.proofs.CurveLemmas.{reaches_from_room}
use Rattle.curve_laws.proofs.IntervalLemmas.{floor_of, room_from_all, some_from_reach, all_from_wide, wide_from_some, wide_factor, wide_less, short_of, past}

-- the height of a curve at the scale of the own kind
abbrev height : ℕ → ℤ → ℕ → ℤ → Fraction → ℤ
height x1 y1 x2 y2 at = curve_height x1 y1 x2 y2 at own_scale

all-wide_own : Follows (AllReachInside wide) (AllReachInside own)
all-wide_own x1 y1 x2 y2 curve at a b reach =
    all_from_wide a b (height x1 y1 x2 y2 at) (own_height x1 y1 x2 y2 at) (floor_of (height x1 y1 x2 y2 at)) (reach 22)

all-own_exact : Follows (AllReachInside own) CurveReaches
all-own_exact x1 y1 x2 y2 curve at a b all =
    reaches_from_room x1 y1 x2 y2 curve at a b 22 (room_from_all a b (height x1 y1 x2 y2 at) (own_height x1 y1 x2 y2 at) (floor_of (height x1 y1 x2 y2 at)) all)

some-exact_own : Follows CurveReaches (SomeReachInside own)
some-exact_own x1 y1 x2 y2 curve at a b reach =
    some_from_reach a b (height x1 y1 x2 y2 at) (own_height x1 y1 x2 y2 at) (floor_of (height x1 y1 x2 y2 at)) (reach 22)

some-own_wide : Follows (SomeReachInside own) (SomeReachInside wide)
some-own_wide x1 y1 x2 y2 curve at a b some =
    reaches_from_room x1 y1 x2 y2 curve at (wide_factor a) (wide_less a b) 22 (wide_from_some a b (height x1 y1 x2 y2 at) (own_height x1 y1 x2 y2 at) (floor_of (height x1 y1 x2 y2 at)) some)

pub intervals_nest : IntervalsNest
intervals_nest = record {
  all_wide = all-wide_own;
  all_own = all-own_exact;
  some_own = some-exact_own;
  some_wide = some-own_wide;
}

-- an end that is up to 6145 parts away from the height rounded down
end-near : (x1 : ℕ) (y1 : ℤ) (x2 : ℕ) (y2 : ℤ) (at : Fraction) (end : ℤ)
    → (own_height x1 y1 x2 y2 at -ℤ pos 6144) ≤ℤ end → end ≤ℤ (own_height x1 y1 x2 y2 at +ℤ pos 6145) → IsNear x1 y1 x2 y2 at end
end-near x1 y1 x2 y2 at end low high =
    let f : ℤ = own_height x1 y1 x2 y2 at in
    record {
      below = λ reach. short_of (height x1 y1 x2 y2 at) f (end +ℤ pos (2 ^ 14)) (floor_of (height x1 y1 x2 y2 at)) (above f end low) (reach 22);
      above = λ reach. past (height x1 y1 x2 y2 at) f (neg_ℤ (end -ℤ pos (2 ^ 14))) (floor_of (height x1 y1 x2 y2 at)) (below f end high) (reach 22);
    } where
      above : (f end : ℤ) → (f -ℤ pos 6144) ≤ℤ end → (f +ℤ pos 6145) <ℤ (end +ℤ pos (2 ^ 14))
      above f end low = omega (arith, ints)

      below : (f end : ℤ) → end ≤ℤ (f +ℤ pos 6145) → pos 6144 <ℤ (neg_ℤ (end -ℤ pos (2 ^ 14)) +ℤ f)
      below f end high = omega (arith, ints)

pub ends_are_near : EndsAreNear
ends_are_near = record {
  least = λ x1 y1 x2 y2 at. let f : ℤ = own_height x1 y1 x2 y2 at in
      end-near x1 y1 x2 y2 at (own_least x1 y1 x2 y2 at) (omega (arith, ints)) (omega (arith, ints));
  greatest = λ x1 y1 x2 y2 at. let f : ℤ = own_height x1 y1 x2 y2 at in
      end-near x1 y1 x2 y2 at (own_greatest x1 y1 x2 y2 at) (omega (arith, ints)) (omega (arith, ints));
}

easing-all_wide : FollowsFor (AllReach wide) (AllReach own)
easing-all_wide Linear valid at a b reach = reach
easing-all_wide (Steps count jump) valid at a b reach = reach
easing-all_wide (Cubic x1 y1 x2 y2) valid at a b reach =
    elim (cases_Bool (is_inner at)) [
      | inl inner ↦ rw inner (all-wide_own x1 y1 x2 y2 valid at a b (rw inner at reach))
      | inr end ↦ rw end (rw end at reach)
    ]

easing-all_own : FollowsFor (AllReach own) Reaches
easing-all_own Linear valid at a b reach = reach
easing-all_own (Steps count jump) valid at a b reach = reach
easing-all_own (Cubic x1 y1 x2 y2) valid at a b reach =
    elim (cases_Bool (is_inner at)) [
      | inl inner ↦ all-own_exact x1 y1 x2 y2 valid at a b (rw inner at reach)
      | inr end ↦ rw end at reach
    ]

easing-some_own : FollowsFor Reaches (SomeReach own)
easing-some_own Linear valid at a b reach = reach
easing-some_own (Steps count jump) valid at a b reach = reach
easing-some_own (Cubic x1 y1 x2 y2) valid at a b reach =
    elim (cases_Bool (is_inner at)) [
      | inl inner ↦ rw inner (some-exact_own x1 y1 x2 y2 valid at a b reach)
      | inr end ↦ rw end reach
    ]

easing-some_wide : FollowsFor (SomeReach own) (SomeReach wide)
easing-some_wide Linear valid at a b reach = reach
easing-some_wide (Steps count jump) valid at a b reach = reach
easing-some_wide (Cubic x1 y1 x2 y2) valid at a b reach =
    elim (cases_Bool (is_inner at)) [
      | inl inner ↦ rw inner (some-own_wide x1 y1 x2 y2 valid at a b (rw inner at reach))
      | inr end ↦ rw end (rw end at reach)
    ]

pub reaches_nest : ReachesNest
reaches_nest = record {
  all_wide = easing-all_wide;
  all_own = easing-all_own;
  some_own = easing-some_own;
  some_wide = easing-some_wide;
}
