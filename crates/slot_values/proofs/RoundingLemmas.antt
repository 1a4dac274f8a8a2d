-- The loose value of a slot between two ends, as the own kind knows it.
use Rattle.std.proofs.Common.{◌≡◌, ◌↔◌, ◌⊎◌, ℕ, ◌+◌, ◌*◌, ◌<◌, ℤ, pos, ◌+ℤ◌, ◌-ℤ◌, ◌*ℤ◌, ◌≤ℤ◌, ◌<ℤ◌, int_le, true, arith, sym, ap, subst, inl, inr, mul-le-mul}
use Rattle.std.specs.Int.{int_div_euclid, int_min, int_max}
use Rattle.std.proofs.lemmas.Int.{ints, clamps, by_lt_z}
use borrow.Author.Differences.{up, down, product_is}
use Rattle.page_model.specs.declared.easing.Easing.{Easing}
use Rattle.page_model.specs.Enclosure.{AllReach, IsLoose, SomeReach, own}
use Rattle.page_model.specs.Fraction.{Fraction}
use Rattle.page_model.specs.Slot.{Slot, IsGreatestIn, held, twice_the_way, twice_to_cover}
use Rattle.fix_span.specs.IntLaws.{*ℤ_assoc, times_le}
use Rattle.fix_span.specs.RoundingLaws.{at_most_floor, floor_above, floor_at_most}
use Rattle.slot_values.specs.Ends.{End, AreEnds, EndReaches}
use Rattle.slot_values.specs.Slots.{IsInSlot, between, loose_of, rounded_at, slot_between}

-- the quotient is the greatest whose product isn't above the number
pub div-greatest : (a v : ℤ) (q : ℕ) → 0 < q → ((v *ℤ pos q) ≤ℤ a) ↔ (v ≤ℤ int_div_euclid a (pos q))
div-greatest a v q some = (
  λ within. at_most_floor v (int_div_euclid a (pos q)) a q within (floor_above a q some),
  λ below. chain (v *ℤ pos q) (int_div_euclid a (pos q) *ℤ pos q) a (times_le v (int_div_euclid a (pos q)) q below) (floor_at_most a q some),
) where
  chain : (a b c : ℤ) → a ≤ℤ b → b ≤ℤ c → a ≤ℤ c
  chain a b c h k = omega (arith, ints)

-- what is to be covered, times a denominator, without brackets
scaled :
    (uv dv uf df ub db ud dd u den : ℕ) → ub + 2 * dv + 1 ≡ db + 2 * uv → ud + u * db + 2 * uf ≡ dd + u * ub + 2 * df
    → ud * den + u * den + 2 * uf * den + 2 * u * den * dv ≡ dd * den + 2 * df * den + 2 * u * den * uv
scaled uv dv uf df ub db ud dd u den e f =
    let first = ap (λ (n : ℕ). u * n * den) e in
    let second = ap (λ (n : ℕ). n * den) f in
    omega arith

cover-scaled :
    (u den : ℕ) (from v : ℤ)
    → (pos u *ℤ (pos 2 *ℤ v -ℤ pos 1) -ℤ pos 2 *ℤ from) *ℤ pos den +ℤ pos (u * den) +ℤ pos 2 *ℤ from *ℤ pos den ≡ v *ℤ pos (2 * (u * den))
cover-scaled u den from v =
    let b : ℤ = pos 2 *ℤ v -ℤ pos 1 in
    let d : ℤ = pos u *ℤ b -ℤ pos 2 *ℤ from in
    let e : up b + 2 * down v + 1 ≡ down b + 2 * up v = omega (arith, ints) in
    let f : up d + u * down b + 2 * up from ≡ down d + u * up b + 2 * down from = omega (arith, ints) in
    let g = scaled (up v) (down v) (up from) (down from) (up b) (down b) (up d) (down d) u den e f in
    finish d from v u den g
  where
    finish :
        (d from v : ℤ) (u den : ℕ)
        → up d * den + u * den + 2 * up from * den + 2 * u * den * down v ≡ down d * den + 2 * down from * den + 2 * u * den * up v
        → d *ℤ pos den +ℤ pos (u * den) +ℤ pos 2 *ℤ from *ℤ pos den ≡ v *ℤ pos (2 * (u * den))
    finish d from v u den g =
        let h = ap (λ (n : ℕ). n * den) (product_is (pos 2) from).0 in
        let k = ap (λ (n : ℕ). n * den) (product_is (pos 2) from).1 in
        omega (arith, ints)

-- twice the number on the way
twice-between : (from way num : ℤ) (den : ℕ)
    → pos 2 *ℤ (from *ℤ pos den +ℤ way *ℤ num) ≡ pos 2 *ℤ from *ℤ pos den +ℤ pos 2 *ℤ way *ℤ num
twice-between from way num den =
    let first = *ℤ_assoc (pos 2) from (pos den) in
    let second = *ℤ_assoc (pos 2) way num in
    sums (from *ℤ pos den) (way *ℤ num) (pos 2 *ℤ from *ℤ pos den) (pos 2 *ℤ way *ℤ num) first second
  where
    sums : (a b c d : ℤ) → c ≡ pos 2 *ℤ a → d ≡ pos 2 *ℤ b → pos 2 *ℤ (a +ℤ b) ≡ c +ℤ d
    sums a b c d e f = omega (arith, ints, e, f)

-- what is to be covered is reached where the whole is, by the number on the way
moved : (c w f q t : ℤ) (r : ℕ) → c +ℤ pos r +ℤ f ≡ q → t ≡ f +ℤ w → c ≤ℤ w → q ≤ℤ (t +ℤ pos r)
moved c w f q t r e g h = omega (arith, ints)

back : (c w f q t : ℤ) (r : ℕ) → c +ℤ pos r +ℤ f ≡ q → t ≡ f +ℤ w → q ≤ℤ (t +ℤ pos r) → c ≤ℤ w
back c w f q t r e g h = omega (arith, ints)

positive : (u d : ℕ) → 0 < u → 0 < d → 0 < 2 * (u * d)
positive u d h k = omega (arith, mul-le-mul h k)

-- an end on its way rounds to v or more exactly where v is at most the quotient
reach-rounds :
    (slot : Slot) (x : End) (from to v : ℤ) → 0 < slot.unit → 0 < x.den
    → EndReaches x (twice_the_way from to) (twice_to_cover slot from v) ↔ (v ≤ℤ rounded_at slot from to x)
reach-rounds slot x from to v unit den =
    let same = cover-scaled slot.unit x.den from v in
    let twice = twice-between from (to -ℤ from) x.num x.den in
    let c : ℤ = twice_to_cover slot from v *ℤ pos x.den in
    let w : ℤ = twice_the_way from to *ℤ x.num in
    let f : ℤ = pos 2 *ℤ from *ℤ pos x.den in
    let q : ℤ = v *ℤ pos (2 * (slot.unit * x.den)) in
    let t : ℤ = pos 2 *ℤ between from to x in
    let quotient = div-greatest (t +ℤ pos (slot.unit * x.den)) v (2 * (slot.unit * x.den)) (positive slot.unit x.den unit den) in (
      λ reached. quotient.0 (moved c w f q t (slot.unit * x.den) same twice reached),
      λ below. back c w f q t (slot.unit * x.den) same twice (quotient.1 below),
    )

-- a number held in a range
low : (a b r : ℤ) → a ≤ℤ held (record { unit = 1; least = a; greatest = b }) r
low a b r = omega (arith, ints, clamps)

high : (a b r : ℤ) → a ≤ℤ b → held (record { unit = 1; least = a; greatest = b }) r ≤ℤ b
high a b r h = omega (arith, ints, clamps)

-- the greatest of those up to a number is that number, held in the range
held-greatest :
    (slot : Slot) (Holds : ℤ → Type 0) (r : ℤ) → slot.least ≤ℤ slot.greatest → ((v : ℤ) → Holds v ↔ (v ≤ℤ r))
    → IsGreatestIn slot Holds (held slot r)
held-greatest slot Holds r some same = record {
  at_least = low slot.least slot.greatest r;
  at_most = high slot.least slot.greatest r some;
  reached = λ above. (same (held slot r)).1 (below slot.least slot.greatest r above);
  greatest = λ inside holds. past slot.least slot.greatest r inside ((same (held slot r +ℤ pos 1)).0 holds);
} where
  below : (a b r : ℤ) → a <ℤ held (record { unit = 1; least = a; greatest = b }) r → held (record { unit = 1; least = a; greatest = b }) r ≤ℤ r
  below a b r h = omega (arith, ints, clamps)

  past : (a b r : ℤ) → held (record { unit = 1; least = a; greatest = b }) r <ℤ b → (held (record { unit = 1; least = a; greatest = b }) r +ℤ pos 1) ≤ℤ r → ⊥
  past a b r h k = omega (arith, ints, clamps)

-- holding two numbers keeps their order
held-least : (a b r s : ℤ) → int_max a (int_min (int_min r s) b) ≡ int_min (int_max a (int_min r b)) (int_max a (int_min s b))
held-least a b r s = omega (arith, ints, clamps)

held-most : (a b r s : ℤ) → int_max a (int_min (int_max r s) b) ≡ int_max (int_max a (int_min r b)) (int_max a (int_min s b))
held-most a b r s = omega (arith, ints, clamps)

-- what both numbers are at least, and what one of them is
pub at-most-both : (v r s : ℤ) → ((v ≤ℤ r) × (v ≤ℤ s)) ↔ (v ≤ℤ int_min r s)
at-most-both v r s = (λ h. both h.0 h.1, λ h. (omega (arith, ints, clamps, h), omega (arith, ints, clamps, h)))
  where
    both : v ≤ℤ r → v ≤ℤ s → v ≤ℤ int_min r s
    both h k = omega (arith, ints, clamps)

pub at-most-one : (v r s : ℤ) → ((v ≤ℤ r) ⊎ (v ≤ℤ s)) ↔ (v ≤ℤ int_max r s)
at-most-one v r s = (
  λ h. elim h [
    | inl k ↦ omega (arith, ints, clamps, k)
    | inr k ↦ omega (arith, ints, clamps, k)
  ],
  λ h. by_lt_z r s (λ less. inr (omega (arith, ints, clamps, h, less))) (λ above. inl (omega (arith, ints, clamps, h, above))),
)

-- two facts that are so exactly where two others are
pub each-is : {A B C D E : Type 0} → (A ↔ (B × C)) → (B ↔ D) → (C ↔ E) → (A ↔ (D × E))
each-is all first second = (
  λ h. (first.0 (all.0 h).0, second.0 (all.0 h).1),
  λ h. all.1 (first.1 h.0, second.1 h.1),
)

pub either-is : {A B C D E : Type 0} → (A ↔ (B ⊎ C)) → (B ↔ D) → (C ↔ E) → (A ↔ (D ⊎ E))
either-is some first second = (
  λ h. elim (some.0 h) [
    | inl k ↦ inl (first.0 k)
    | inr k ↦ inr (second.0 k)
  ],
  λ h. elim h [
    | inl k ↦ some.1 (inl (first.1 k))
    | inr k ↦ some.1 (inr (second.1 k))
  ],
)

pub joined : {A B C : Type 0} → (A ↔ B) → (B ↔ C) → (A ↔ C)
joined first second = (λ a. second.0 (first.0 a), λ c. first.1 (second.1 c))

pub loose-is :
    (slot : Slot) (easing : Easing) (at : Fraction) (from to : ℤ) (least greatest : End) → AreEnds easing at least greatest
    → 0 < slot.unit → slot.least ≤ℤ slot.greatest → IsLoose own slot easing at from to (slot_between slot from to least greatest)
loose-is slot easing at from to least greatest ends unit some =
    let r : ℤ = rounded_at slot from to least in
    let s : ℤ = rounded_at slot from to greatest in
    let first : (v : ℤ) → EndReaches least (twice_the_way from to) (twice_to_cover slot from v) ↔ (v ≤ℤ r) =
    λ v. reach-rounds slot least from to v unit ends.some_least in
    let second : (v : ℤ) → EndReaches greatest (twice_the_way from to) (twice_to_cover slot from v) ↔ (v ≤ℤ s) =
    λ v. reach-rounds slot greatest from to v unit ends.some_greatest in record {
      least =
          subst (IsGreatestIn slot (λ v. AllReach own easing at (twice_the_way from to) (twice_to_cover slot from v)))
          (held-least slot.least slot.greatest r s)
          (held-greatest slot (λ v. AllReach own easing at (twice_the_way from to) (twice_to_cover slot from v)) (int_min r s) some
          (λ v. joined (each-is (ends.all (twice_the_way from to) (twice_to_cover slot from v)) (first v) (second v)) (at-most-both v r s)));
      greatest =
          subst (IsGreatestIn slot (λ v. SomeReach own easing at (twice_the_way from to) (twice_to_cover slot from v)))
          (held-most slot.least slot.greatest r s)
          (held-greatest slot (λ v. SomeReach own easing at (twice_the_way from to) (twice_to_cover slot from v)) (int_max r s) some
          (λ v. joined (either-is (ends.some (twice_the_way from to) (twice_to_cover slot from v)) (first v) (second v)) (at-most-one v r s)));
    }

-- a comparison that holds
pub le-true : (a b : ℤ) → a ≤ℤ b → int_le a b ≡ true
le-true a b h = let e : true ≡ int_le a b = omega (arith, ints, h) in sym e

-- the loose value of a slot lies in its range
pub in_slot : (slot : Slot) (from to : ℤ) (least greatest : End) → slot.least ≤ℤ slot.greatest → IsInSlot slot (slot_between slot from to least greatest)
in_slot slot from to least greatest some =
    ordered slot.least slot.greatest (rounded_at slot from to least) (rounded_at slot from to greatest) some
  where
    ordered : (a b r s : ℤ) → a ≤ℤ b
        → IsInSlot (record { unit = slot.unit; least = a; greatest = b }) (loose_of (int_max a (int_min r b)) (int_max a (int_min s b)))
    ordered a b r s some = record {
      at_least = omega (arith, ints, clamps);
      in_order = omega (arith, ints, clamps);
      at_most = omega (arith, ints, clamps);
    }
