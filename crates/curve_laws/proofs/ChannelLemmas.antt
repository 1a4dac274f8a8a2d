-- Proofs of how loose channels nest. Orders of numbers are stable under double negation, so it may be assumed that the alpha is gone
-- for all values of a set, for some, or for none.
use Rattle.std.proofs.Common.{◌≡◌, arith}
use Rattle.std.specs.Prelude.{ℤ, pos, ◌≤ℤ◌}
use Rattle.std.proofs.lemmas.Int.{ints, by_lt_z}
use Rattle.page_model.specs.declared.easing.Easing.{Easing}
use Rattle.page_model.specs.Curve.{Reaches}
use Rattle.page_model.specs.Enclosure.{Kind, own, wide, Loose, AllGone, AllReach, AreLevels, IsLooseChannel, SomeGone, SomeReach, any_level, one_value}
use Rattle.page_model.specs.Fraction.{Fraction}
use Rattle.page_model.specs.Slot.{Shade, IsChannelValue, IsGreatestLevel, due, fading, gain}
use Rattle.page_model.specs.ValidScene.{IsEasing}
use Rattle.state_laws.proofs.RunLemmas.{channel-at_least, channel-at_most}
use Rattle.state_laws.proofs.UniqueLemmas.{level-mono}
use Rattle.curve_laws.specs.EnclosureLaws.{OfEasing, FollowsFor}
use Rattle.curve_laws.specs.SlotLaws.{IsWithin, LooseChannelsNest, LooseWithin}
use Rattle.curve_laws.proofs.EnclosureLemmas.{reaches_nest}
use Rattle.curve_laws.proofs.ReachLemmas.{all-reach, reach-some}

-- an order that can't fail holds
stable : (a b : ℤ) → ((a ≤ℤ b → ⊥) → ⊥) → a ≤ℤ b
stable a b known = by_lt_z b a (λ less. absurd (known (λ order. omega (arith, ints, less, order)))) (λ order. order)

-- the levels that are reached
abbrev ByLevel : OfEasing → Easing → Fraction → Shade → Shade → ℤ → Type 0
ByLevel Reach easing at from to v = Reach easing at (gain from to v) (due from v)

levels-le : (First Second : OfEasing) → FollowsFor First Second → (easing : Easing) → IsEasing easing → (at : Fraction) (from to : Shade) (u w : ℤ)
    → IsGreatestLevel (ByLevel First easing at from to) u → IsGreatestLevel (ByLevel Second easing at from to) w → u ≤ℤ w
levels-le First Second follows easing valid at from to u w first second =
    level-mono (ByLevel First easing at from to) (ByLevel Second easing at from to) u w
    (λ v reach. follows easing valid at (gain from to v) (due from v) reach) first second

-- what all reach, some do
all-some : (kind : Kind) → FollowsFor (AllReach kind) (SomeReach kind)
all-some kind easing valid at a b all = reach-some kind easing valid at a b (all-reach kind easing valid at a b all)

-- what doesn't fail by any of three cases doesn't fail
by_channel : (kind : Kind) (easing : Easing) (at : Fraction) (from to : Shade) (loose : Loose) (Fact : Type 0) → IsLooseChannel kind easing at from to loose
    → (AllGone kind easing at from to → loose ≡ one_value (pos 0) → Fact) → (SomeGone kind easing at from to → loose ≡ any_level → Fact)
    → ((SomeGone kind easing at from to → ⊥) → AreLevels kind easing at from to loose → Fact) → (Fact → ⊥) → ⊥
by_channel kind easing at from to loose Fact is gone mixed left never =
    let some_left : AllGone kind easing at from to → ⊥ = λ all. never (gone all (is.gone all)) in
    let all_left : SomeGone kind easing at from to → ⊥ = λ some. never (mixed some (is.mixed some some_left)) in
    never (left all_left (is.left all_left))

-- the ends are in order, and from 0 to 255
channel-order : (kind : Kind) (easing : Easing) → IsEasing easing → (at : Fraction) (from to : Shade) (loose : Loose)
    → IsLooseChannel kind easing at from to loose → loose.lo ≤ℤ loose.hi
channel-order kind easing valid at from to loose is =
    stable loose.lo loose.hi (by_channel kind easing at from to loose (loose.lo ≤ℤ loose.hi) is
    (λ all e. rw e (omega (arith, ints))) (λ some e. rw e (omega (arith, ints)))
    (λ left levels. levels-le (AllReach kind) (SomeReach kind) (all-some kind) easing valid at from to loose.lo loose.hi levels.least levels.greatest))

pub channel-low : (kind : Kind) (easing : Easing) (at : Fraction) (from to : Shade) (loose : Loose) → IsLooseChannel kind easing at from to loose
    → pos 0 ≤ℤ loose.lo
channel-low kind easing at from to loose is =
    stable (pos 0) loose.lo (by_channel kind easing at from to loose (pos 0 ≤ℤ loose.lo) is
    (λ all e. rw e (omega (arith, ints))) (λ some e. rw e (omega (arith, ints))) (λ left levels. levels.least.at_least))

pub channel-high : (kind : Kind) (easing : Easing) (at : Fraction) (from to : Shade) (loose : Loose) → IsLooseChannel kind easing at from to loose
    → loose.hi ≤ℤ pos 255
channel-high kind easing at from to loose is =
    stable loose.hi (pos 255) (by_channel kind easing at from to loose (loose.hi ≤ℤ pos 255) is
    (λ all e. rw e (omega (arith, ints))) (λ some e. rw e (omega (arith, ints))) (λ left levels. levels.greatest.at_most))

-- loose channels as numbers
within-any : (loose : Loose) (v : ℤ) → loose ≡ any_level → pos 0 ≤ℤ v → v ≤ℤ pos 255 → IsWithin loose v
within-any loose v e low high = rw e (record { at_least = low; at_most = high })

within-none : (loose : Loose) (v : ℤ) → loose ≡ one_value (pos 0) → v ≡ pos 0 → IsWithin loose v
within-none loose v e f = rw (e, f) (record { at_least = omega (arith, ints); at_most = omega (arith, ints) })

loose-any : (outer inner : Loose) → outer ≡ any_level → pos 0 ≤ℤ inner.lo → inner.hi ≤ℤ pos 255 → LooseWithin outer inner
loose-any outer inner e low high = rw e (record { least = low; greatest = high })

loose-none : (outer inner : Loose) → outer ≡ one_value (pos 0) → inner ≡ one_value (pos 0) → LooseWithin outer inner
loose-none outer inner e f = rw (e, f) (record { least = omega (arith, ints); greatest = omega (arith, ints) })

-- the exact value lies between the ends
not-outside : (kind : Kind) (easing : Easing) → IsEasing easing → (at : Fraction) (from to : Shade) (loose : Loose) (v : ℤ)
    → IsLooseChannel kind easing at from to loose → IsChannelValue easing at from to v → (IsWithin loose v → ⊥) → ⊥
not-outside kind easing valid at from to loose v is value =
    by_channel kind easing at from to loose (IsWithin loose v) is
    (λ all e. within-none loose v e (value.gone (all-reach kind easing valid at (fading from to) (pos from.alpha) all)))
    (λ some e. within-any loose v e (channel-at_least easing at from to v value) (channel-at_most easing at from to v value))
    (λ left levels.
    let level = value.left (λ gone. left (reach-some kind easing valid at (fading from to) (pos from.alpha) gone)) in record {
      at_least = levels-le (AllReach kind) Reaches (all-reach kind) easing valid at from to loose.lo v levels.least level;
      at_most = levels-le Reaches (SomeReach kind) (reach-some kind) easing valid at from to v loose.hi level levels.greatest;
    })

-- and so do the ends of the own kind between those of the wide one
not-apart : (easing : Easing) → IsEasing easing → (at : Fraction) (from to : Shade) (outer inner : Loose)
    → IsLooseChannel wide easing at from to outer → IsLooseChannel own easing at from to inner → (LooseWithin outer inner → ⊥) → ⊥
not-apart easing valid at from to outer inner first second =
    by_channel wide easing at from to outer (LooseWithin outer inner) first
    (λ all e. loose-none outer inner e (second.gone (reaches_nest.all_wide easing valid at (fading from to) (pos from.alpha) all)))
    (λ some e. loose-any outer inner e (channel-low own easing at from to inner second) (channel-high own easing at from to inner second))
    (λ left levels.
    let inside = second.left (λ some. left (reaches_nest.some_wide easing valid at (fading from to) (pos from.alpha) some)) in record {
      least = levels-le (AllReach wide) (AllReach own) reaches_nest.all_wide easing valid at from to outer.lo inner.lo levels.least inside.least;
      greatest = levels-le (SomeReach own) (SomeReach wide) reaches_nest.some_wide easing valid at from to inner.hi outer.hi inside.greatest levels.greatest;
    })

pub loose_channels_nest : LooseChannelsNest
loose_channels_nest = record {
  exact_value = λ kind easing valid at from to loose v is value.
      let known = not-outside kind easing valid at from to loose v is value in record {
        at_least = stable loose.lo v (λ never. known (λ h. never h.at_least));
        at_most = stable v loose.hi (λ never. known (λ h. never h.at_most));
      };
  own_in_wide = λ easing valid at from to outer inner first second.
      let known = not-apart easing valid at from to outer inner first second in record {
        least = stable outer.lo inner.lo (λ never. known (λ h. never h.least));
        greatest = stable inner.hi outer.hi (λ never. known (λ h. never h.greatest));
      };
  in_order = channel-order;
}
