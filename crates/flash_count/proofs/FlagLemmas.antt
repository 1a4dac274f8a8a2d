-- Where a chain of eight changes starts in the window, and ends by its last frame, its tints have a chain.
use Rattle.std.proofs.Common.{ℕ, ◌≡◌, ◌⊎◌, ◌∙◌, ◌+◌, ◌-◌, ◌<◌, ◌≤◌, Bool, false, true, List, length, drop, slice_get, Some, arith, inl, inr, subst, sym, ap}
use Rattle.std.specs.Prelude.{◌↔◌}
use Rattle.page_model.specs.declared.colour.Tint.{Tint}
use Rattle.tint_changes.specs.declared.changes.Change.{Change}
use Rattle.tint_changes.specs.declared.changes.Change.TheVariants.{PossibleRise, PossiblyIntoRed, SureRise, SurelyIntoRed}
use Rattle.flash_count.specs.Chains.{HasChainOf, HasPossibleChain, HasSureChain}
use Rattle.tint_changes.specs.Counting.{Makes, MakesAt}
use Rattle.flash_rows.specs.Rows.{EndsBefore, EndsWith, is_sure, opposite_of}
use Rattle.flash_rows.specs.Starts.{IsLatest, Leads}
use Rattle.flash_count.specs.Tracked.{last_of}
use Rattle.tint_changes.proofs.ChainLemmas.{change-within}
use Rattle.flash_count.proofs.LeadLemmas.{chain-leads, leads-chain}
use Rattle.flash_rows.proofs.ListLemmas.{slice_get-drop}
use Rattle.flash_rows.proofs.RowLemmas.{AreOfSort, IsOneOf, opposite-twice, possible-sort, sure-sort}
use Rattle.flash_rows.proofs.StartLemmas.{leads-moved}

-- a change between two frames is one between what is left of them, and the other way round
dropped : (tints : List Tint) (gone k : ℕ) (tint : Tint) → gone ≤ k → slice_get tints k ≡ Some tint
    → slice_get (drop gone tints) (k - gone) ≡ Some tint
dropped tints gone k tint from there =
    let at : gone + (k - gone) ≡ k = omega arith in
    slice_get-drop gone tints (k - gone) ∙ ap (slice_get tints) at ∙ there

change-dropped : (change : Change) (tints : List Tint) (gone j k : ℕ) → gone ≤ j → j < k → MakesAt change tints j k
    → MakesAt change (drop gone tints) (j - gone) (k - gone)
change-dropped change tints gone j k from before made = record {
  earlier = made.earlier;
  later = made.later;
  is_earlier = dropped tints gone j made.earlier from made.is_earlier;
  is_later = dropped tints gone k made.later (omega arith) made.is_later;
  changes = made.changes;
}

change-whole : (change : Change) (tints : List Tint) (gone j k : ℕ) → MakesAt change (drop gone tints) j k
    → MakesAt change tints (gone + j) (gone + k)
change-whole change tints gone j k made = record {
  earlier = made.earlier;
  later = made.later;
  is_earlier = sym (slice_get-drop gone tints j) ∙ made.is_earlier;
  is_later = sym (slice_get-drop gone tints k) ∙ made.is_later;
  changes = made.changes;
}

ends-dropped : (change : Change) (tints : List Tint) (gone end start : ℕ) → gone ≤ start → EndsWith change tints 8 end start
    → EndsWith change (drop gone tints) 8 (end - gone) (start - gone)
ends-dropped change tints gone end start from =
    leads-moved (MakesAt change tints) (MakesAt (opposite_of change) tints) (MakesAt change (drop gone tints))
    (MakesAt (opposite_of change) (drop gone tints)) (λ k. k - gone) 8 start end gone end
    (λ j k low before within made. (omega arith, change-dropped change tints gone j k low before made))
    (λ j k low before within made. (omega arith, change-dropped (opposite_of change) tints gone j k low before made)) from (omega arith)

ends-whole : (change : Change) (tints : List Tint) (gone end start : ℕ) → EndsWith change (drop gone tints) 8 end start
    → EndsWith change tints 8 (gone + end) (gone + start)
ends-whole change tints gone end start =
    leads-moved (MakesAt change (drop gone tints)) (MakesAt (opposite_of change) (drop gone tints)) (MakesAt change tints)
    (MakesAt (opposite_of change) tints) (λ k. gone + k) 8 start end 0 end
    (λ j k low before within made. (omega arith, change-whole change tints gone j k made))
    (λ j k low before within made. (omega arith, change-whole (opposite_of change) tints gone j k made)) (omega arith) (omega arith)

-- eight changes that end with one change or with its opposite are a chain
ends-chain : (change rise : Change) (tints : List Tint) (end start : ℕ) → (change ≡ rise) ⊎ (change ≡ opposite_of rise)
    → EndsWith change tints 8 end start → HasChainOf (Makes rise) (Makes (opposite_of rise)) tints
ends-chain change rise tints end start (inl same) ends =
    leads-chain (Makes rise) (Makes (opposite_of rise)) tints start end
    (inl (subst (λ (c : Change). EndsWith c tints 8 end start) same ends))
ends-chain change rise tints end start (inr same) ends =
    let turned = subst (λ (c : Change). EndsWith c tints 8 end start) same ends in
    leads-chain (Makes rise) (Makes (opposite_of rise)) tints start end
    (inr (subst (λ (c : Change). Leads (MakesAt (opposite_of rise) tints) (MakesAt c tints) 8 start end) (opposite-twice rise) turned))

-- by two changes and their opposites
abbrev pub HasEither : Change → Change → List Tint → Type 0
HasEither rise into tints =
    HasChainOf (Makes rise) (Makes (opposite_of rise)) tints ⊎ HasChainOf (Makes into) (Makes (opposite_of into)) tints

ends-either : (change rise into : Change) (tints : List Tint) (end start : ℕ) → IsOneOf rise into change
    → EndsWith change tints 8 end start → HasEither rise into tints
ends-either change rise into tints end start (inl one) ends = inl (ends-chain change rise tints end start one ends)
ends-either change rise into tints end start (inr one) ends = inr (ends-chain change into tints end start one ends)

-- and a chain is eight changes that end with one of them
pub record HasEnds (sure : Bool) (tints : List Tint) : Type 0 where
  pub change : Change
  pub sort : is_sure change ≡ sure
  pub start : ℕ
  pub end : ℕ
  pub ends : EndsWith change tints 8 end start

chain-ends : (sure : Bool) (rise : Change) (tints : List Tint) → is_sure rise ≡ sure → is_sure (opposite_of rise) ≡ sure
    → HasChainOf (Makes rise) (Makes (opposite_of rise)) tints → HasEnds sure tints
chain-ends sure rise tints one other has =
    let led = chain-leads (Makes rise) (Makes (opposite_of rise)) tints has in
    elim led.2 [
      | inl up ↦ record { change = rise; sort = one; start = led.0; end = led.1; ends = up }
      | inr down ↦ record {
        change = opposite_of rise;
        sort = other;
        start = led.0;
        end = led.1;
        ends = subst (λ (c : Change). Leads (MakesAt (opposite_of rise) tints) (MakesAt c tints) 8 led.0 led.1) (sym (opposite-twice rise)) down;
      }
    ]

either-ends : (sure : Bool) (rise into : Change) (tints : List Tint) → AreOfSort sure rise into → HasEither rise into tints → HasEnds sure tints
either-ends sure rise into tints sort (inl has) = chain-ends sure rise tints sort.rises sort.falls has
either-ends sure rise into tints sort (inr has) = chain-ends sure into tints sort.goes_in sort.goes_out has

ends-within : (change : Change) (tints : List Tint) (end start : ℕ) → EndsWith change tints 8 end start → end < length tints
ends-within change tints end start (middle, before, made, leads) = (change-within (Makes change) tints middle end made).1

-- a chain of the last tints starts at a window's first frame or later
whole-before : (change : Change) (sure : Bool) (all : List Tint) (gone limit end start : ℕ) → is_sure change ≡ sure → length all ≡ limit
    → EndsWith change (drop gone all) 8 end start → EndsBefore sure all limit (gone + start)
whole-before change sure all gone limit end start sort count ends = record {
  end = gone + end;
  change = change;
  sort = sort;
  before = let within = ends-within change all (gone + end) (gone + start) (ends-whole change all gone end start ends) in omega arith;
  ends = ends-whole change all gone end start ends;
}

flag-chain : (all : List Tint) (rate turn number : ℕ) (sure : Bool) (rise into : Change) → AreOfSort sure rise into → length all ≡ turn + 1
    → IsLatest (EndsBefore sure all (turn + 1)) rate turn number → (number ≤ rate) ↔ HasEither rise into (last_of (rate + 1) all)
flag-chain all rate turn number sure rise into sort count is = (
  λ near.
      let found = is.there near in
      let gone : ℕ = length all - (rate + 1) in
      let from : gone ≤ found.0 = omega (arith, found.1) in
      ends-either found.2.change rise into (drop gone all) (found.2.end - gone) (found.0 - gone) (sort.only found.2.change found.2.sort)
      (ends-dropped found.2.change all gone found.2.end found.0 from found.2.ends),
  λ has.
      let gone : ℕ = length all - (rate + 1) in
      let ends = either-ends sure rise into (drop gone all) sort has in
      let before = whole-before ends.change sure all gone (turn + 1) ends.end ends.start ends.sort count ends.ends in
      omega (arith, is.latest (gone + ends.start) before (omega arith)),
)

pub flag-possible : (all : List Tint) (rate turn number : ℕ) → length all ≡ turn + 1 → IsLatest (EndsBefore false all (turn + 1)) rate turn number
    → (number ≤ rate) ↔ HasPossibleChain (last_of (rate + 1) all)
flag-possible all rate turn number count is = flag-chain all rate turn number false PossibleRise PossiblyIntoRed possible-sort count is

-- a chain of sure changes by its places, of one kind or the other
sure-either : (tints : List Tint) → HasSureChain tints → HasEither SureRise SurelyIntoRed tints
sure-either tints (inl has) = inl has
sure-either tints (inr has) = inr has

either-sure : (tints : List Tint) → HasEither SureRise SurelyIntoRed tints → HasSureChain tints
either-sure tints (inl has) = inl has
either-sure tints (inr has) = inr has

pub flag-sure : (all : List Tint) (rate turn number : ℕ) → length all ≡ turn + 1 → IsLatest (EndsBefore true all (turn + 1)) rate turn number
    → (number ≤ rate) ↔ HasSureChain (last_of (rate + 1) all)
flag-sure all rate turn number count is =
    let told = flag-chain all rate turn number true SureRise SurelyIntoRed sure-sort count is in
    (λ near. either-sure (last_of (rate + 1) all) (told.0 near), λ has. told.1 (sure-either (last_of (rate + 1) all) has))
