-- Between opaque colours the test of a level is 255,000 times the former one, and no alpha is gone.
use Rattle.std.proofs.Common.{◌≡◌, ◌↔◌, ℕ, suc, ◌-◌, ◌*◌, ◌^◌, ◌<◌, ℤ, pos, negsuc, neg_ℤ, ◌+ℤ◌, ◌-ℤ◌, ◌*ℤ◌, ◌≤ℤ◌, arith, sym, subst}
use Rattle.std.specs.Int.{int_max, int_min}
use Rattle.std.proofs.lemmas.Int.{ints, clamps}
use Rattle.page_model.specs.declared.easing.Easing.{Easing}
use Rattle.page_model.specs.declared.easing.Easing.TheVariants.{Linear, Steps, Cubic}
use Rattle.page_model.specs.declared.easing.Jump.{Jump}
use Rattle.page_model.specs.declared.easing.Jump.TheVariants.{Start, End, Neither, Both}
use Rattle.page_model.specs.Curve.{CurveReaches, FractionReaches, Reaches, curve_height, jumps_of, stepped}
use Rattle.page_model.specs.Enclosure.{AllReach, AllReachInside, IsLoose, Kind, Loose, SomeReach, SomeReachInside, exact, kind_at, one_value, own, own_greatest, own_least, wide}
use Rattle.page_model.specs.Fraction.{Fraction}
use Rattle.page_model.specs.Slot.{IsGreatestIn, IsGreatestLevel, IsSlotValue, RoundsTo, RoundsToLevel, cover, due, gain, twice_the_way, twice_to_cover}
use Rattle.page_model.specs.ValidScene.{AreSteps, IsEasing}
use Rattle.state_laws.proofs.UniqueLemmas.{IsAntitone, RoundsTo-antitone, slot-unique}
use Rattle.wide_laws.proofs.LooseLemmas.{AllRound-antitone, SomeRound-antitone, all-some, loose-unique}
use Rattle.full_alpha_laws.specs.FormerSlot.{channel}
use Rattle.full_alpha_laws.specs.FullAlpha.{opaque}
use Rattle.full_alpha_laws.specs.SlotLaws.{ChannelsAreFormer, CoversAreFull, LooseChannelsAreFormer}
use Rattle.full_alpha_laws.proofs.ScaleLemmas.{IsScaled, all-scaled, reaches-scaled, some-scaled}

-- the way and what is due of it, in 255,000 times the former numbers
gain-full : (c d : ℕ) (z : ℤ) → (pos (2 * (d * 255000)) -ℤ z *ℤ pos 255000) -ℤ (pos (2 * (c * 255000)) -ℤ z *ℤ pos 255000) ≡ pos 255000 *ℤ (pos 2 *ℤ (pos d -ℤ pos c))
gain-full c d z = omega (arith, ints)

due-full : (c : ℕ) (z : ℤ) → neg_ℤ (pos (2 * (c * 255000)) -ℤ z *ℤ pos 255000) ≡ pos 255000 *ℤ (pos 1 *ℤ z -ℤ pos 2 *ℤ pos c)
due-full c z = omega (arith, ints)

level-same :
    (Reach : Easing → Fraction → ℤ → ℤ → Type 0) → IsScaled Reach → (easing : Easing) (at : Fraction) (c d : ℕ) (v : ℤ)
    → Reach easing at (gain (opaque c) (opaque d) v) (due (opaque c) v)
    ↔ Reach easing at (twice_the_way (pos c) (pos d)) (twice_to_cover channel (pos c) v)
level-same Reach scaled easing at c d v =
    let z : ℤ = pos 2 *ℤ v -ℤ pos 1 in
    rw (gain-full c d z, due-full c z) (scaled easing at (twice_the_way (pos c) (pos d)) (twice_to_cover channel (pos c) v))

-- the greatest of an antitone fact is the greatest of all
greatest-same :
    (Level Former : ℤ → Type 0) (v : ℤ) → IsAntitone Former → ((w : ℤ) → Level w ↔ Former w)
    → IsGreatestLevel Level v ↔ IsGreatestIn channel Former v
greatest-same Level Former v antitone same = (
  λ is. record {
    at_least = is.at_least;
    at_most = is.at_most;
    reached = λ some. (same v).0 (is.reached some);
    greatest = λ inside holds. is.greatest (v +ℤ pos 1) (omega (arith, ints)) (omega (arith, ints)) ((same (v +ℤ pos 1)).1 holds);
  },
  λ is. record {
    at_least = is.at_least;
    at_most = is.at_most;
    reached = λ some. (same v).1 (is.reached some);
    greatest = λ w above most holds.
        is.greatest (omega (arith, ints)) (antitone (v +ℤ pos 1) w (omega (arith, ints)) ((same w).0 holds));
  },
)

-- nothing isn't something: no way of 0 reaches a bound above it
jumps-some : (count : ℕ) (jump : Jump) → AreSteps count jump → 0 < jumps_of count jump
jumps-some count Start steps = let some = steps.some in omega arith
jumps-some count End steps = let some = steps.some in omega arith
jumps-some count Neither steps = let some = steps.some in omega arith
jumps-some count Both steps = let some = steps.some in omega arith

fraction-none : (x : Fraction) → 0 < x.den → FractionReaches x (pos 0) (pos 255000) → ⊥
fraction-none x some reached = omega (arith, ints)

curve-none : (x1 : ℕ) (y1 : ℤ) (x2 : ℕ) (y2 : ℤ) (at : Fraction) (n : ℕ) → CurveReaches x1 y1 x2 y2 at (pos 0) (pos (suc n)) → ⊥
curve-none x1 y1 x2 y2 at n reached = none (curve_height x1 y1 x2 y2 at 1) n (reached 0)
  where
    none : (h : ℤ) (n : ℕ) → (pos (suc n) *ℤ pos (1000 * (1 * 1 * 1))) ≤ℤ (pos 0 *ℤ h +ℤ pos (24000 * 0 * (1 * 1))) → ⊥
    none h n reached = omega (arith, ints)

some_inside-none : (kind : Kind) (x1 : ℕ) (y1 : ℤ) (x2 : ℕ) (y2 : ℤ) (at : Fraction) → SomeReachInside kind x1 y1 x2 y2 at (pos 0) (pos 255000) → ⊥
some_inside-none exact x1 y1 x2 y2 at reached = curve-none x1 y1 x2 y2 at 254999 reached
some_inside-none own x1 y1 x2 y2 at reached = none (own_least x1 y1 x2 y2 at) (own_greatest x1 y1 x2 y2 at) reached
  where
    none : (l g : ℤ) → (pos 255000 *ℤ pos (2 ^ 30)) ≤ℤ int_max (pos 0 *ℤ l) (pos 0 *ℤ g) → ⊥
    none l g reached = omega (arith, ints, clamps)
some_inside-none wide x1 y1 x2 y2 at reached = curve-none x1 y1 x2 y2 at (2 ^ 16 * 255000 - 1) reached

reaches-none : (easing : Easing) → IsEasing easing → (at : Fraction) → 0 < at.den → Reaches easing at (pos 0) (pos 255000) → ⊥
reaches-none Linear valid at some reached = fraction-none at some reached
reaches-none (Steps count jump) valid at some reached = fraction-none (stepped count jump at) (jumps-some count jump valid) reached
reaches-none (Cubic x1 y1 x2 y2) valid at some reached = curve-none x1 y1 x2 y2 at 254999 reached

some-none : (kind : Kind) (easing : Easing) → IsEasing easing → (at : Fraction) → 0 < at.den → SomeReach kind easing at (pos 0) (pos 255000) → ⊥
some-none kind Linear valid at some reached = fraction-none at some reached
some-none kind (Steps count jump) valid at some reached = fraction-none (stepped count jump at) (jumps-some count jump valid) reached
some-none kind (Cubic x1 y1 x2 y2) valid at some reached = some_inside-none (kind_at kind at) x1 y1 x2 y2 at reached

-- so the channels are the former ones
pub channels_are_former : ChannelsAreFormer
channels_are_former easing valid at some from to v =
    let same = greatest-same (RoundsToLevel easing at (opaque from) (opaque to)) (RoundsTo channel easing at (pos from) (pos to)) v
    (RoundsTo-antitone channel easing at (pos from) (pos to)) (level-same Reaches reaches-scaled easing at from to) in (
      λ is. same.0 (is.left (reaches-none easing valid at some)),
      λ is. record { gone = λ gone. absurd (reaches-none easing valid at some gone); left = λ left. same.1 is },
    )

pub loose_channels_are_former : LooseChannelsAreFormer
loose_channels_are_former kind easing valid at some from to loose =
    let low = greatest-same (λ v. AllReach kind easing at (gain (opaque from) (opaque to) v) (due (opaque from) v))
    (λ v. AllReach kind easing at (twice_the_way (pos from) (pos to)) (twice_to_cover channel (pos from) v)) loose.lo
    (AllRound-antitone kind channel easing at (pos from) (pos to)) (level-same (AllReach kind) (all-scaled kind) easing at from to) in
    let high = greatest-same (λ v. SomeReach kind easing at (gain (opaque from) (opaque to) v) (due (opaque from) v))
    (λ v. SomeReach kind easing at (twice_the_way (pos from) (pos to)) (twice_to_cover channel (pos from) v)) loose.hi
    (SomeRound-antitone kind channel easing at (pos from) (pos to)) (level-same (SomeReach kind) (some-scaled kind) easing at from to) in
    let none = some-none kind easing valid at some in (
      λ is. let ends = is.left none in record { least = low.0 ends.least; greatest = high.0 ends.greatest },
      λ is. record {
        gone = λ all. absurd (none (all-some kind easing at (pos 0) (pos 255000) all));
        mixed = λ gone others. absurd (none gone);
        left = λ left. record { least = low.1 is.least; greatest = high.1 is.greatest };
      },
    )

-- a way of 0 reaches each bound below it
below-none : (n d : ℕ) → (negsuc n *ℤ pos d) ≤ℤ pos 0
below-none n d = omega (arith, ints)

curve-below : (x1 : ℕ) (y1 : ℤ) (x2 : ℕ) (y2 : ℤ) (at : Fraction) (n : ℕ) → CurveReaches x1 y1 x2 y2 at (pos 0) (negsuc n)
curve-below x1 y1 x2 y2 at n e = below (2 ^ e) (curve_height x1 y1 x2 y2 at (2 ^ e)) n
  where
    below : (m : ℕ) (h : ℤ) (n : ℕ) → (negsuc n *ℤ pos (1000 * (m * m * m))) ≤ℤ (pos 0 *ℤ h +ℤ pos (24000 * 0 * (m * m)))
    below m h n = let less = below-none n (1000 * (m * m * m)) in omega (arith, ints)

fraction-below : (x : Fraction) (n : ℕ) → FractionReaches x (pos 0) (negsuc n)
fraction-below x n = let less = below-none n x.den in omega (arith, ints)

reaches-below : (easing : Easing) (at : Fraction) (n : ℕ) → Reaches easing at (pos 0) (negsuc n)
reaches-below Linear at n = fraction-below at n
reaches-below (Steps count jump) at n = fraction-below (stepped count jump at) n
reaches-below (Cubic x1 y1 x2 y2) at n = curve-below x1 y1 x2 y2 at n

all_inside-below : (kind : Kind) (x1 : ℕ) (y1 : ℤ) (x2 : ℕ) (y2 : ℤ) (at : Fraction) → AllReachInside kind x1 y1 x2 y2 at (pos 0) (negsuc 999)
all_inside-below exact x1 y1 x2 y2 at = curve-below x1 y1 x2 y2 at 999
all_inside-below own x1 y1 x2 y2 at = below (own_least x1 y1 x2 y2 at) (own_greatest x1 y1 x2 y2 at)
  where
    below : (l g : ℤ) → (negsuc 999 *ℤ pos (2 ^ 30)) ≤ℤ int_min (pos 0 *ℤ l) (pos 0 *ℤ g)
    below l g = omega (arith, ints, clamps)
all_inside-below wide x1 y1 x2 y2 at = curve-below x1 y1 x2 y2 at (2 ^ 16 * 1000 - 1)

all-below : (kind : Kind) (easing : Easing) (at : Fraction) → AllReach kind easing at (pos 0) (negsuc 999)
all-below kind Linear at = fraction-below at 999
all-below kind (Steps count jump) at = fraction-below (stepped count jump at) 999
all-below kind (Cubic x1 y1 x2 y2) at = all_inside-below (kind_at kind at) x1 y1 x2 y2 at

-- so the covers are full
cover-full : (Holds : ℤ → Type 0) → Holds (pos 255) → IsGreatestIn cover Holds (pos 255)
cover-full Holds here = record {
  at_least = omega (arith, ints);
  at_most = omega (arith, ints);
  reached = λ some. here;
  greatest = λ more. absurd (omega (arith, ints));
}

exactly-full : (easing : Easing) (at : Fraction) → IsSlotValue cover easing at (pos 255000) (pos 255000) (pos 255)
exactly-full easing at = cover-full (RoundsTo cover easing at (pos 255000) (pos 255000)) (reaches-below easing at 999)

by_kind-full : (kind : Kind) (easing : Easing) (at : Fraction) → IsLoose kind cover easing at (pos 255000) (pos 255000) (one_value (pos 255))
by_kind-full kind easing at = record {
  least = cover-full (λ v. AllReach kind easing at (twice_the_way (pos 255000) (pos 255000)) (twice_to_cover cover (pos 255000) v)) (all-below kind easing at);
  greatest = cover-full (λ v. SomeReach kind easing at (twice_the_way (pos 255000) (pos 255000)) (twice_to_cover cover (pos 255000) v))
      (all-some kind easing at (pos 0) (negsuc 999) (all-below kind easing at));
}

pub covers_are_full : CoversAreFull
covers_are_full = record {
  exactly = λ easing at v. (
    λ is. slot-unique cover easing at (pos 255000) (pos 255000) v (pos 255) is (exactly-full easing at),
    λ e. subst (λ (w : ℤ). IsSlotValue cover easing at (pos 255000) (pos 255000) w) (sym e) (exactly-full easing at),
  );
  by_kind = λ kind easing at loose. (
    λ is. loose-unique kind cover easing at (pos 255000) (pos 255000) loose (one_value (pos 255)) is (by_kind-full kind easing at),
    λ e. subst (λ (l : Loose). IsLoose kind cover easing at (pos 255000) (pos 255000) l) (sym e) (by_kind-full kind easing at),
  );
}
