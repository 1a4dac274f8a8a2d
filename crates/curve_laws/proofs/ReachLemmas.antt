-- Each reach is one of each smaller number, and of the kinds the looser follow from the stricter.
use Rattle.std.proofs.Common.{ℕ, ◌^◌, inl, inr, arith}
use Rattle.std.specs.Prelude.{ℤ, pos, ◌*ℤ◌, ◌≤ℤ◌}
use Rattle.std.proofs.lemmas.Bool.{cases_Bool}
use Rattle.std.proofs.lemmas.Int.{ints}
use Rattle.page_model.specs.declared.easing.Easing.{Easing}
use Rattle.page_model.specs.declared.easing.Easing.TheVariants.{Linear, Steps, Cubic}
use Rattle.page_model.specs.Curve.{FractionReaches, Reaches, stepped}
use Rattle.page_model.specs.Enclosure.{Kind, exact, own, wide, AllReachInside, SomeReachInside, AllReach, SomeReach, is_inner}
use Rattle.page_model.specs.Fraction.{Fraction}
use Rattle.curve_laws.specs.EnclosureLaws.{OfEasing, FollowsFor}
use Rattle.curve_laws.proofs.CurveLemmas.{reach_is_antitone}
use Rattle.curve_laws.proofs.EnclosureLemmas.{reaches_nest}
use Rattle.curve_laws.proofs.IntervalLemmas.{wide_factor, wide_more, wide_less, wide_is}
use Rattle.curve_laws.proofs.SignedLemmas.{times_le}

-- a reach is one of each smaller number
abbrev pub IsAntitone : OfEasing → Type 0
IsAntitone Reach = (easing : Easing) (at : Fraction) (a b less : ℤ) → less ≤ℤ b → Reach easing at a b → Reach easing at a less

below : (a b c : ℤ) → a ≤ℤ b → b ≤ℤ c → a ≤ℤ c
below a b c first second = omega (arith, ints, first, second)

fraction-less : (x : Fraction) (a b less : ℤ) → less ≤ℤ b → FractionReaches x a b → FractionReaches x a less
fraction-less x a b less order reach =
    below (less *ℤ pos x.den) (b *ℤ pos x.den) (a *ℤ pos x.num) (times_le less b x.den order) reach

pub reaches-antitone : IsAntitone Reaches
reaches-antitone Linear at a b less order reach = fraction-less at a b less order reach
reaches-antitone (Steps count jump) at a b less order reach = fraction-less (stepped count jump at) a b less order reach
reaches-antitone (Cubic x1 y1 x2 y2) at a b less order reach = reach_is_antitone.at_all x1 y1 x2 y2 at a b less order reach

factor-le : (a b : ℤ) → a ≤ℤ b → wide_factor a ≤ℤ wide_factor b
factor-le a b order = omega (arith, ints, order, wide_is a, wide_is b)

more-le : (a b less : ℤ) → less ≤ℤ b → wide_more a less ≤ℤ wide_more a b
more-le a b less order = let h = factor-le less b order in omega (arith, ints, h)

less-le : (a b less : ℤ) → less ≤ℤ b → wide_less a less ≤ℤ wide_less a b
less-le a b less order = let h = factor-le less b order in omega (arith, ints, h)

all_inside-less : (kind : Kind) (x1 : ℕ) (y1 : ℤ) (x2 : ℕ) (y2 : ℤ) (at : Fraction) (a b less : ℤ) → less ≤ℤ b
    → AllReachInside kind x1 y1 x2 y2 at a b → AllReachInside kind x1 y1 x2 y2 at a less
all_inside-less exact x1 y1 x2 y2 at a b less order reach = reach_is_antitone.at_all x1 y1 x2 y2 at a b less order reach
all_inside-less own x1 y1 x2 y2 at a b less order reach =
    below (less *ℤ pos (2 ^ 30)) (b *ℤ pos (2 ^ 30)) _ (times_le less b (2 ^ 30) order) reach
all_inside-less wide x1 y1 x2 y2 at a b less order reach =
    reach_is_antitone.at_all x1 y1 x2 y2 at (wide_factor a) (wide_more a b) (wide_more a less) (more-le a b less order) reach

some_inside-less : (kind : Kind) (x1 : ℕ) (y1 : ℤ) (x2 : ℕ) (y2 : ℤ) (at : Fraction) (a b less : ℤ) → less ≤ℤ b
    → SomeReachInside kind x1 y1 x2 y2 at a b → SomeReachInside kind x1 y1 x2 y2 at a less
some_inside-less exact x1 y1 x2 y2 at a b less order reach = reach_is_antitone.at_all x1 y1 x2 y2 at a b less order reach
some_inside-less own x1 y1 x2 y2 at a b less order reach =
    below (less *ℤ pos (2 ^ 30)) (b *ℤ pos (2 ^ 30)) _ (times_le less b (2 ^ 30) order) reach
some_inside-less wide x1 y1 x2 y2 at a b less order reach =
    reach_is_antitone.at_all x1 y1 x2 y2 at (wide_factor a) (wide_less a b) (wide_less a less) (less-le a b less order) reach

pub all-antitone : (kind : Kind) → IsAntitone (AllReach kind)
all-antitone kind Linear at a b less order reach = fraction-less at a b less order reach
all-antitone kind (Steps count jump) at a b less order reach = fraction-less (stepped count jump at) a b less order reach
all-antitone kind (Cubic x1 y1 x2 y2) at a b less order reach =
    elim (cases_Bool (is_inner at)) [
      | inl inner ↦ rw inner (all_inside-less kind x1 y1 x2 y2 at a b less order (rw inner at reach))
      | inr end ↦ rw end (all_inside-less exact x1 y1 x2 y2 at a b less order (rw end at reach))
    ]

pub some-antitone : (kind : Kind) → IsAntitone (SomeReach kind)
some-antitone kind Linear at a b less order reach = fraction-less at a b less order reach
some-antitone kind (Steps count jump) at a b less order reach = fraction-less (stepped count jump at) a b less order reach
some-antitone kind (Cubic x1 y1 x2 y2) at a b less order reach =
    elim (cases_Bool (is_inner at)) [
      | inl inner ↦ rw inner (some_inside-less kind x1 y1 x2 y2 at a b less order (rw inner at reach))
      | inr end ↦ rw end (some_inside-less exact x1 y1 x2 y2 at a b less order (rw end at reach))
    ]

-- of each kind: what all reach the exact value does, and what it does some do
exact-all : FollowsFor (AllReach exact) Reaches
exact-all Linear valid at a b reach = reach
exact-all (Steps count jump) valid at a b reach = reach
exact-all (Cubic x1 y1 x2 y2) valid at a b reach =
    elim (cases_Bool (is_inner at)) [ inl inner ↦ rw inner at reach | inr end ↦ rw end at reach ]

exact-some : FollowsFor Reaches (SomeReach exact)
exact-some Linear valid at a b reach = reach
exact-some (Steps count jump) valid at a b reach = reach
exact-some (Cubic x1 y1 x2 y2) valid at a b reach =
    elim (cases_Bool (is_inner at)) [ inl inner ↦ rw inner reach | inr end ↦ rw end reach ]

pub all-reach : (kind : Kind) → FollowsFor (AllReach kind) Reaches
all-reach exact = exact-all
all-reach own = reaches_nest.all_own
all-reach wide = λ easing valid at a b reach. reaches_nest.all_own easing valid at a b (reaches_nest.all_wide easing valid at a b reach)

pub reach-some : (kind : Kind) → FollowsFor Reaches (SomeReach kind)
reach-some exact = exact-some
reach-some own = reaches_nest.some_own
reach-some wide = λ easing valid at a b reach. reaches_nest.some_wide easing valid at a b (reaches_nest.some_own easing valid at a b reach)
