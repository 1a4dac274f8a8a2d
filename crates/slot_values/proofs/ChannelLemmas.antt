-- The loose value of a channel between two ends, as the own kind knows it.
use Rattle.std.proofs.Common.{◌≡◌, ◌↔◌, ◌∙◌, ℕ, ◌*◌, ◌<◌, ℤ, pos, negsuc, neg_ℤ, ◌+ℤ◌, ◌-ℤ◌, ◌*ℤ◌, ◌≤ℤ◌, ◌<ℤ◌, int_le, Bool, true, false, arith, refl, sym, ap, subst, inl, inr}
use Rattle.std.specs.Int.{int_min, int_max}
use Rattle.std.proofs.lemmas.Bool.{cases_Bool}
use Rattle.std.proofs.lemmas.Int.{ints, clamps}
use Rattle.std.proofs.Math.IntN.{*ℤ_comm}
use Rattle.page_model.specs.declared.easing.Easing.{Easing}
use Rattle.page_model.specs.Enclosure.{AllReach, AreLevels, IsLooseChannel, SomeReach, own}
use Rattle.page_model.specs.Fraction.{Fraction}
use Rattle.page_model.specs.Slot.{IsGreatestLevel, Shade, due, excess, fading, gain, held_level, over_alpha, premultiplied}
use Rattle.fix_span.specs.IntLaws.{*ℤ_assoc, add-*ℤ, sub-*ℤ}
use Rattle.fix_span.specs.RoundingLaws.{twice_less}
use Rattle.slot_values.specs.Channels.{eight_bits, alpha_at, channel_between, channel_left, is_gone_at, level_at}
use Rattle.slot_values.specs.Ends.{End, AreEnds, EndReaches}
use Rattle.slot_values.specs.Slots.{IsInSlot, between, half_up, loose_of}
use Rattle.slot_values.proofs.RoundingLemmas.{at-most-both, at-most-one, div-greatest, each-is, either-is, joined, le-true}

-- a difference turned round, times a number
turned : (a b n : ℤ) → (b -ℤ a) *ℤ n ≡ neg_ℤ ((a -ℤ b) *ℤ n)
turned a b n =
    let first = sub-*ℤ a b n in
    let second = sub-*ℤ b a n in
    omega (arith, ints, first, second)

-- no alpha is left where what is left isn't above 0
gone-at : (from to : Shade) (x : End) → EndReaches x (fading from to) (pos from.alpha) ↔ (is_gone_at from to x ≡ true)
gone-at from to x =
    below (pos from.alpha *ℤ pos x.den) ((pos from.alpha -ℤ pos to.alpha) *ℤ x.num) ((pos to.alpha -ℤ pos from.alpha) *ℤ x.num)
    (turned (pos from.alpha) (pos to.alpha) x.num)
  where
    below : (p q r : ℤ) → r ≡ neg_ℤ q → (p ≤ℤ q) ↔ (int_le (p +ℤ r) (pos 0) ≡ true)
    below p q r e = (λ h. le-true (p +ℤ r) (pos 0) (omega (arith, ints, h, e)), λ h. omega (arith, ints, h, e))

-- what is linear at both colours is so on the way
scaled-between : (k a b den num : ℤ) → k *ℤ (a *ℤ den +ℤ (b -ℤ a) *ℤ num) ≡ (k *ℤ a) *ℤ den +ℤ ((k *ℤ b) *ℤ num -ℤ (k *ℤ a) *ℤ num)
scaled-between k a b den num =
    let apart : (b -ℤ a) *ℤ num ≡ b *ℤ num -ℤ a *ℤ num = sub-*ℤ b a num in
    let sum : k *ℤ (a *ℤ den +ℤ (b -ℤ a) *ℤ num) ≡ (a *ℤ den +ℤ (b -ℤ a) *ℤ num) *ℤ k = *ℤ_comm k (a *ℤ den +ℤ (b -ℤ a) *ℤ num) in
    let spread : (a *ℤ den +ℤ (b -ℤ a) *ℤ num) *ℤ k ≡ (a *ℤ den) *ℤ k +ℤ ((b -ℤ a) *ℤ num) *ℤ k = add-*ℤ (a *ℤ den) ((b -ℤ a) *ℤ num) k in
    let rest : ((b -ℤ a) *ℤ num) *ℤ k ≡ (b *ℤ num) *ℤ k -ℤ (a *ℤ num) *ℤ k = ap (λ (z : ℤ). z *ℤ k) apart ∙ sub-*ℤ (b *ℤ num) (a *ℤ num) k in
    let first = regrouped a den in
    let second = regrouped b num in
    let third = regrouped a num in
    sums (k *ℤ (a *ℤ den +ℤ (b -ℤ a) *ℤ num)) ((a *ℤ den +ℤ (b -ℤ a) *ℤ num) *ℤ k) ((a *ℤ den) *ℤ k) (((b -ℤ a) *ℤ num) *ℤ k)
    ((b *ℤ num) *ℤ k) ((a *ℤ num) *ℤ k) ((k *ℤ a) *ℤ den) ((k *ℤ b) *ℤ num) ((k *ℤ a) *ℤ num) sum spread rest first second third
  where
    regrouped : (z n : ℤ) → (z *ℤ n) *ℤ k ≡ (k *ℤ z) *ℤ n
    regrouped z n = *ℤ_comm (z *ℤ n) k ∙ sym (*ℤ_assoc k z n)

    sums : (w t p q r s x y z : ℤ) → w ≡ t → t ≡ p +ℤ q → q ≡ r -ℤ s → p ≡ x → r ≡ y → s ≡ z → w ≡ x +ℤ (y -ℤ z)
    sums w t p q r s x y z e f g h i j = omega (arith, ints, e, f, g, h, i, j)

-- twice the product less so many times the alpha, on the way between what these are at the colours
excess-between : (p q a b k den num : ℤ)
    → (pos 2 *ℤ p -ℤ k *ℤ a) *ℤ den +ℤ ((pos 2 *ℤ q -ℤ k *ℤ b) -ℤ (pos 2 *ℤ p -ℤ k *ℤ a)) *ℤ num
    ≡ pos 2 *ℤ (p *ℤ den +ℤ (q -ℤ p) *ℤ num) -ℤ k *ℤ (a *ℤ den +ℤ (b -ℤ a) *ℤ num)
excess-between p q a b k den num =
    let own = sub-*ℤ (pos 2 *ℤ p) (k *ℤ a) den in
    let more = sub-*ℤ (pos 2 *ℤ q -ℤ k *ℤ b) (pos 2 *ℤ p -ℤ k *ℤ a) num in
    let high = sub-*ℤ (pos 2 *ℤ q) (k *ℤ b) num in
    let low = sub-*ℤ (pos 2 *ℤ p) (k *ℤ a) num in
    let twice = scaled-between (pos 2) p q den num in
    let times = scaled-between k a b den num in
    sums ((pos 2 *ℤ p -ℤ k *ℤ a) *ℤ den) (((pos 2 *ℤ q -ℤ k *ℤ b) -ℤ (pos 2 *ℤ p -ℤ k *ℤ a)) *ℤ num) ((pos 2 *ℤ q -ℤ k *ℤ b) *ℤ num)
    ((pos 2 *ℤ p -ℤ k *ℤ a) *ℤ num) ((pos 2 *ℤ p) *ℤ den) ((k *ℤ a) *ℤ den) ((pos 2 *ℤ q) *ℤ num) ((k *ℤ b) *ℤ num) ((pos 2 *ℤ p) *ℤ num)
    ((k *ℤ a) *ℤ num) (pos 2 *ℤ (p *ℤ den +ℤ (q -ℤ p) *ℤ num)) (k *ℤ (a *ℤ den +ℤ (b -ℤ a) *ℤ num)) own more high low twice times
  where
    sums : (u v w x p1 a1 q2 b2 p2 a2 t s : ℤ) → u ≡ p1 -ℤ a1 → v ≡ w -ℤ x → w ≡ q2 -ℤ b2 → x ≡ p2 -ℤ a2 → t ≡ p1 +ℤ (q2 -ℤ p2)
        → s ≡ a1 +ℤ (b2 -ℤ a2) → u +ℤ v ≡ t -ℤ s
    sums u v w x p1 a1 q2 b2 p2 a2 t s e f g h i j = omega (arith, ints, e, f, g, h, i, j)

-- an end is at a level or above it exactly where what is left is
excess-reaches : (f t den num : ℤ) → ((neg_ℤ f *ℤ den) ≤ℤ ((t -ℤ f) *ℤ num)) ↔ (pos 0 ≤ℤ (f *ℤ den +ℤ (t -ℤ f) *ℤ num))
excess-reaches f t den num = by-parts (f *ℤ den) (neg_ℤ f *ℤ den) ((t -ℤ f) *ℤ num) negated
  where
    whole : neg_ℤ f ≡ pos 0 -ℤ f
    whole = omega (arith, ints)

    none : pos 0 *ℤ den ≡ pos 0
    none = omega (arith, ints)

    negated : neg_ℤ f *ℤ den ≡ pos 0 -ℤ f *ℤ den
    negated = ap (λ (z : ℤ). z *ℤ den) whole ∙ sub-*ℤ (pos 0) f den ∙ ap (λ (z : ℤ). z -ℤ f *ℤ den) none

    by-parts : (p n m : ℤ) → n ≡ pos 0 -ℤ p → (n ≤ℤ m) ↔ (pos 0 ≤ℤ (p +ℤ m))
    by-parts p n m e = (λ h. omega (arith, ints, h, e), λ h. omega (arith, ints, h, e))

-- so it is where the level is at most the product over the alpha, rounded half up
over-greatest : (p : ℤ) (n : ℕ) (v : ℤ) → 0 < n → (pos 0 ≤ℤ (pos 2 *ℤ p -ℤ (pos 2 *ℤ v -ℤ pos 1) *ℤ pos n)) ↔ (v ≤ℤ half_up p (pos n))
over-greatest p n v some =
    let less = twice_less v n in
    let quotient = div-greatest (pos 2 *ℤ p +ℤ pos n) v (2 * n) (omega arith) in (
      λ h. quotient.0 (there (v *ℤ pos (2 * n)) ((pos 2 *ℤ v -ℤ pos 1) *ℤ pos n) less h),
      λ h. back (v *ℤ pos (2 * n)) ((pos 2 *ℤ v -ℤ pos 1) *ℤ pos n) less (quotient.1 h),
    )
  where
    there : (w k : ℤ) → k ≡ w -ℤ pos n → pos 0 ≤ℤ (pos 2 *ℤ p -ℤ k) → w ≤ℤ (pos 2 *ℤ p +ℤ pos n)
    there w k e h = omega (arith, ints, e, h)

    back : (w k : ℤ) → k ≡ w -ℤ pos n → w ≤ℤ (pos 2 *ℤ p +ℤ pos n) → pos 0 ≤ℤ (pos 2 *ℤ p -ℤ k)
    back w k e h = omega (arith, ints, e, h)

over-level : (p a v : ℤ) → int_le a (pos 0) ≡ false → (pos 0 ≤ℤ (pos 2 *ℤ p -ℤ (pos 2 *ℤ v -ℤ pos 1) *ℤ a)) ↔ (v ≤ℤ half_up p a)
over-level p (pos n) v left = over-greatest p n v (omega (arith, ints, left))
over-level p (negsuc n) v left = absurd (omega (arith, ints, left))

abbrev product_at : Shade → Shade → End → ℤ
product_at from to x = between (pos (premultiplied from)) (pos (premultiplied to)) x

level-reached : (from to : Shade) (x : End) (v : ℤ) → is_gone_at from to x ≡ false
    → EndReaches x (gain from to v) (due from v) ↔ (v ≤ℤ half_up (product_at from to x) (alpha_at from to x))
level-reached from to x v left =
    let k : ℤ = pos 2 *ℤ v -ℤ pos 1 in
    let p : ℤ = pos (premultiplied from) in
    let q : ℤ = pos (premultiplied to) in
    let is = excess-between p q (pos from.alpha) (pos to.alpha) k (pos x.den) x.num in
    joined (excess-reaches (excess v from) (excess v to) (pos x.den) x.num)
    (joined (rewritten (excess v from *ℤ pos x.den +ℤ (excess v to -ℤ excess v from) *ℤ x.num)
    (pos 2 *ℤ product_at from to x -ℤ k *ℤ alpha_at from to x) is)
    (over-level (product_at from to x) (alpha_at from to x) v left))
  where
    rewritten : (m n : ℤ) → m ≡ n → (pos 0 ≤ℤ m) ↔ (pos 0 ≤ℤ n)
    rewritten m n e = (λ h. rw e at h, λ h. rw e h)

-- a number from 0 to 255 is the greatest of those up to another
level-greatest : (Holds : ℤ → Type 0) (r : ℤ) → ((v : ℤ) → Holds v ↔ (v ≤ℤ r)) → IsGreatestLevel Holds (held_level r)
level-greatest Holds r same = record {
  at_least = omega (arith, ints, clamps);
  at_most = omega (arith, ints, clamps);
  reached = λ above. (same (held_level r)).1 (below above);
  greatest = λ w more most holds. past w more most ((same w).0 holds);
} where
  below : pos 0 <ℤ held_level r → held_level r ≤ℤ r
  below h = omega (arith, ints, clamps)

  past : (w : ℤ) → held_level r <ℤ w → w ≤ℤ pos 255 → w ≤ℤ r → ⊥
  past w h k l = omega (arith, ints, clamps)

held-least : (r s : ℤ) → held_level (int_min r s) ≡ int_min (held_level r) (held_level s)
held-least r s = omega (arith, ints, clamps)

held-most : (r s : ℤ) → held_level (int_max r s) ≡ int_max (held_level r) (held_level s)
held-most r s = omega (arith, ints, clamps)

-- the level where the alpha isn't gone
level-left : (from to : Shade) (x : End) → is_gone_at from to x ≡ false
    → level_at from to x ≡ held_level (half_up (product_at from to x) (alpha_at from to x))
level-left from to x left = rw left refl

levels-are : (easing : Easing) (at : Fraction) (from to : Shade) (least greatest : End) → AreEnds easing at least greatest
    → is_gone_at from to least ≡ false → is_gone_at from to greatest ≡ false
    → AreLevels own easing at from to (loose_of (level_at from to least) (level_at from to greatest))
levels-are easing at from to least greatest ends first second =
    let r : ℤ = half_up (product_at from to least) (alpha_at from to least) in
    let s : ℤ = half_up (product_at from to greatest) (alpha_at from to greatest) in
    rw (level-left from to least first, level-left from to greatest second) (record {
      least =
          subst (IsGreatestLevel (λ v. AllReach own easing at (gain from to v) (due from v))) (held-least r s)
          (level-greatest (λ v. AllReach own easing at (gain from to v) (due from v)) (int_min r s)
          (λ v. joined (each-is (ends.all (gain from to v) (due from v)) (level-reached from to least v first) (level-reached from to greatest v second))
          (at-most-both v r s)));
      greatest =
          subst (IsGreatestLevel (λ v. SomeReach own easing at (gain from to v) (due from v))) (held-most r s)
          (level-greatest (λ v. SomeReach own easing at (gain from to v) (due from v)) (int_max r s)
          (λ v. joined (either-is (ends.some (gain from to v) (due from v)) (level-reached from to least v first) (level-reached from to greatest v second))
          (at-most-one v r s)));
    })

-- the channel, where the alpha is gone at both ends, at one of them or at none
pub loose_channel-is : (easing : Easing) (at : Fraction) (from to : Shade) (least greatest : End) → AreEnds easing at least greatest
    → IsLooseChannel own easing at from to (channel_between from to least greatest)
loose_channel-is easing at from to least greatest ends =
    let all = each-is (ends.all (fading from to) (pos from.alpha)) (gone-at from to least) (gone-at from to greatest) in
    let some = either-is (ends.some (fading from to) (pos from.alpha)) (gone-at from to least) (gone-at from to greatest) in
    elim (cases_Bool (is_gone_at from to least)) [
      | inl first ↦ elim (cases_Bool (is_gone_at from to greatest)) [
        | inl second ↦ rw (first, second) (record {
          gone = λ h. refl;
          mixed = λ h not_all. absurd (not_all (all.1 (first, second)));
          left = λ none. absurd (none (some.1 (inl first)));
        })
        | inr second ↦ rw (first, second) (record {
          gone = λ h. absurd (differ (is_gone_at from to greatest) (all.0 h).1 second);
          mixed = λ h not_all. refl;
          left = λ none. absurd (none (some.1 (inl first)));
        })
      ]
      | inr first ↦ elim (cases_Bool (is_gone_at from to greatest)) [
        | inl second ↦ rw (first, second) (record {
          gone = λ h. absurd (differ (is_gone_at from to least) (all.0 h).0 first);
          mixed = λ h not_all. refl;
          left = λ none. absurd (none (some.1 (inr second)));
        })
        | inr second ↦
            subst (IsLooseChannel own easing at from to) (sym (left-is first second)) (record {
              gone = λ h. absurd (differ (is_gone_at from to least) (all.0 h).0 first);
              mixed = λ h not_all. absurd (elim (some.0 h) [
                | inl k ↦ differ (is_gone_at from to least) k first
                | inr k ↦ differ (is_gone_at from to greatest) k second
              ]);
              left = λ none. levels-are easing at from to least greatest ends first second;
            })
      ]
    ]
  where
    differ : (b : Bool) → b ≡ true → b ≡ false → ⊥
    differ b yes_it no_it = cc

    left-is : is_gone_at from to least ≡ false → is_gone_at from to greatest ≡ false
        → channel_between from to least greatest ≡ loose_of (level_at from to least) (level_at from to greatest)
    left-is first second =
        (λ i. channel_left (first i) (second i) (level_at from to least) (level_at from to greatest))

-- a channel is from 0 to 255
abbrev IsByte : ℤ → Type 0
IsByte v = (pos 0 ≤ℤ v) × (v ≤ℤ pos 255)

over-small : (product alpha : ℤ) → IsByte (over_alpha product alpha)
over-small product alpha =
    elim (cases_Bool (int_le alpha (pos 0))) [
      | inl none ↦ rw none (omega (arith, ints), omega (arith, ints))
      | inr some ↦ rw some (held-small (half_up product alpha))
    ]
  where
    held-small : (v : ℤ) → IsByte (held_level v)
    held-small v = (omega (arith, ints, clamps), omega (arith, ints, clamps))

left-small : (h k : Bool) (a b : ℤ) → IsByte a → IsByte b → IsInSlot eight_bits (channel_left h k a b)
left-small true true a b first second = record { at_least = omega (arith, ints); in_order = omega (arith, ints); at_most = omega (arith, ints) }
left-small true false a b first second = record { at_least = omega (arith, ints); in_order = omega (arith, ints); at_most = omega (arith, ints) }
left-small false true a b first second = record { at_least = omega (arith, ints); in_order = omega (arith, ints); at_most = omega (arith, ints) }
left-small false false a b first second =
    let low = first.0 in
    let high = first.1 in
    let other_low = second.0 in
    let other_high = second.1 in
    record { at_least = omega (arith, ints, clamps); in_order = omega (arith, ints, clamps); at_most = omega (arith, ints, clamps) }

pub channel-small : (from to : Shade) (least greatest : End) → IsInSlot eight_bits (channel_between from to least greatest)
channel-small from to least greatest =
    left-small (is_gone_at from to least) (is_gone_at from to greatest) (level_at from to least) (level_at from to greatest)
    (over-small (product_at from to least) (alpha_at from to least)) (over-small (product_at from to greatest) (alpha_at from to greatest))

-- the channel by what is made at both ends
pub left-is : (from to : Shade) (least greatest : End) (p a q b : ℤ) → p ≡ between (pos (premultiplied from)) (pos (premultiplied to)) least
    → a ≡ alpha_at from to least → q ≡ between (pos (premultiplied from)) (pos (premultiplied to)) greatest → b ≡ alpha_at from to greatest
    → channel_left (int_le a (pos 0)) (int_le b (pos 0)) (over_alpha p a) (over_alpha q b) ≡ channel_between from to least greatest
left-is from to least greatest p a q b e f g h = rw (e, f, g, h) refl
