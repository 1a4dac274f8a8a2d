-- How surely a layer is shown between two ends, as the own kind knows it.
use Rattle.std.proofs.Common.{◌≡◌, ◌↔◌, ◌⊎◌, ℤ, pos, negsuc, ◌+ℤ◌, ◌*ℤ◌, int_le, Bool, true, false, arith, refl, inl, inr}
use Rattle.std.proofs.lemmas.Int.{ints}
use Rattle.page_model.specs.declared.easing.Easing.{Easing}
use Rattle.page_model.specs.Enclosure.{AllReach, IsHiddenSurely, IsShownSurely, SomeReach, own}
use Rattle.page_model.specs.Fraction.{Fraction}
use Rattle.slot_values.specs.Ends.{AreEnds, End, EndReaches}
use Rattle.slot_values.proofs.RoundingLemmas.{each-is, either-is, le-true}
use Rattle.layer_ways.specs.Ways.{hides_at, shown_between, unless_hidden}

-- an end is 1 or more, or isn't above 0
one-reached : (x : End) → EndReaches x (pos 1) (pos 1) ↔ (int_le (pos x.den) x.num ≡ true)
one-reached x = (λ h. le-true (pos x.den) x.num (omega (arith, ints, h)), λ h. omega (arith, ints, h))

none-reached : (x : End) → EndReaches x (negsuc 0) (pos 0) ↔ (int_le x.num (pos 0) ≡ true)
none-reached x =
    let minus = minus-one x.num in (
      λ h. le-true x.num (pos 0) (omega (arith, ints, h, minus)),
      λ h. omega (arith, ints, h, minus),
    )
  where
    minus-one : (z : ℤ) → negsuc 0 *ℤ z +ℤ z ≡ pos 0
    minus-one (pos n) = omega (arith, ints)
    minus-one (negsuc n) = omega (arith, ints)

hidden-by : (Each Any : Type 0) (h k : Bool) → (Each ↔ ((h ≡ true) × (k ≡ true))) → (Any ↔ ((h ≡ true) ⊎ (k ≡ true)))
    → IsHiddenSurely Each Any (unless_hidden h k)
hidden-by Each Any true true each any = each.1 (refl, refl)
hidden-by Each Any true false each any = (any.1 (inl refl), λ all. let both = (each.0 all).1 in cc)
hidden-by Each Any false true each any = (any.1 (inr refl), λ all. let both = (each.0 all).0 in cc)
hidden-by Each Any false false each any = λ some. elim (any.0 some) [
  | inl h ↦ cc
  | inr k ↦ cc
]

pub shown-is : (easing : Easing) (at : Fraction) (from to : Bool) (least greatest : End) → AreEnds easing at least greatest
    → IsShownSurely own easing at from to (shown_between from to least greatest)
shown-is easing at true true least greatest ends = refl
shown-is easing at true false least greatest ends =
    hidden-by (AllReach own easing at (pos 1) (pos 1)) (SomeReach own easing at (pos 1) (pos 1)) (hides_at true false least) (hides_at true false greatest)
    (each-is (ends.all (pos 1) (pos 1)) (one-reached least) (one-reached greatest))
    (either-is (ends.some (pos 1) (pos 1)) (one-reached least) (one-reached greatest))
shown-is easing at false true least greatest ends =
    hidden-by (AllReach own easing at (negsuc 0) (pos 0)) (SomeReach own easing at (negsuc 0) (pos 0)) (hides_at false true least) (hides_at false true greatest)
    (each-is (ends.all (negsuc 0) (pos 0)) (none-reached least) (none-reached greatest))
    (either-is (ends.some (negsuc 0) (pos 0)) (none-reached least) (none-reached greatest))
shown-is easing at false false least greatest ends = refl
