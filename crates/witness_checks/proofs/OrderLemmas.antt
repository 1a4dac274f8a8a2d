-- Parts that stand row by row, each before the next one, share no pixel.
use Rattle.std.proofs.Common.{◌≡◌, ℕ, ◌+◌, ◌-◌, ◌≤◌, List, Some, length, slice_get, ap, arith, inl, inr, subst, sym, ◌∙◌}
use Rattle.std.proofs.lemmas.Bool.{cases_eq, cases_lt}
use Rattle.std.proofs.lemmas.Option.{same_Some}
use Rattle.page_model.specs.declared.witness.Part.{Part}
use Rattle.witness_checks.specs.Faults.{ShareAPixel}
use Rattle.witness_checks.specs.Places.{AreApartBefore, AreInOrder, ComesBefore}

-- what comes before a part that comes before another comes before that one
comes-trans : (a b c : Part) → ComesBefore a b → ComesBefore b c → ComesBefore a c
comes-trans a b c (inl above) (inl below) = inl (omega arith)
comes-trans a b c (inl above) (inr left) = inl (omega (arith, left.same_top))
comes-trans a b c (inr left) (inl below) = inl (omega (arith, left.same_top, left.same_height))
comes-trans a b c (inr left) (inr right) = inr (record {
  same_top = left.same_top ∙ right.same_top;
  same_height = left.same_height ∙ right.same_height;
  columns = omega (arith, left.columns, right.columns);
})

-- it shares no pixel with it
comes-apart : (a b : Part) → ComesBefore a b → ShareAPixel a b → ⊥
comes-apart a b (inl above) share = let low = share.in_one.above in let high = share.in_other.below in omega arith
comes-apart a b (inr left) share =
    let low = share.in_one.left_of in let high = share.in_other.right_of in omega (arith, left.columns)

-- one part more that the one before it comes before
pub order-more : (parts : List Part) (next : ℕ) (one other : Part) → slice_get parts (next - 1) ≡ Some one → slice_get parts next ≡ Some other
    → 1 ≤ next → AreInOrder parts next → ComesBefore one other → AreInOrder parts (next + 1)
order-more parts next one other one_there other_there some order comes i j a b rising within a_there b_there =
    elim (cases_lt j next) [
      | inl earlier ↦ order i j a b rising earlier a_there b_there
      | inr later ↦
          let at : next ≡ j = omega arith in
          let other_is : other ≡ b = same_Some other b (sym other_there ∙ ap (λ n. slice_get parts n) at ∙ b_there) in
          subst (λ (p : Part). ComesBefore a p) other_is (before-other at)
    ]
  where
    before-other : next ≡ j → ComesBefore a other
    before-other at =
        elim (cases_eq i (next - 1)) [
          | inl same ↦
              let one_is : one ≡ a = same_Some one a (sym one_there ∙ ap (λ n. slice_get parts n) (sym same) ∙ a_there) in
              subst (λ (p : Part). ComesBefore p other) one_is comes
          | inr differ ↦
              comes-trans a one other (order i (next - 1) a one (omega arith) (omega arith) a_there one_there) comes
        ]

-- of all parts: no two share a pixel
pub order-apart : (parts : List Part) (end : ℕ) → length parts ≤ end → AreInOrder parts end → AreApartBefore parts (length parts)
order-apart parts end past order i less j a b rising within a_there b_there =
    comes-apart a b (order i j a b rising (omega arith) a_there b_there)
