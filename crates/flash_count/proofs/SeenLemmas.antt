-- A list that holds what is seen in the frames of a window has a chain exactly where the window has one.
use Rattle.std.proofs.Common.{ℕ, ◌≡◌, ◌+◌, ◌-◌, ◌<◌, ◌≤◌, ◌∙◌, List, [], ◌∷◌, length, get_or, map, arith, inl, inr, ap}
use Rattle.std.specs.Prelude.{slice_get, Some, ◌↔◌}
use Rattle.std.specs.List.{All}
use Rattle.std.specs.List.Sorted.{IsStrictlyIncreasing}
use Rattle.std.proofs.lemmas.List.{get_or-map, length-map}
use Rattle.std.proofs.lemmas.List.Elements.{All-map, All-tail}
use Rattle.page_model.specs.Flash.{Alternates, Between, HasChain, IsChain}
use Rattle.flash_count.specs.Chains.{HasChainOf, IsChangeAt}

-- the items of a list are what is seen from a frame on, up to the last of the window
pub record IsSeen {C : Type 0} (seen : ℕ → C) (start window : ℕ) (items : List C) : Type 0 where
  pub whole : length items ≡ window + 1
  pub each : (k : ℕ) → k ≤ window → slice_get items k ≡ Some (seen (start + k))

-- changes in turn stay so where each change of places that have a property does
alternates-map : (R S R' S' : ℕ → ℕ → Type 0) (P : ℕ → Type 0) (f : ℕ → ℕ) (places : List ℕ) → All P places
    → ((j k : ℕ) → P j → P k → R j k → R' (f j) (f k)) → ((j k : ℕ) → P j → P k → S j k → S' (f j) (f k))
    → Alternates R S places → Alternates R' S' (map f places)
alternates-map R S R' S' P f [] all one other turns = tt
alternates-map R S R' S' P f (a ∷ []) all one other turns = tt
alternates-map R S R' S' P f (a ∷ (b ∷ rest)) all one other (change, turns) = (
  one a b (all 0 0 (omega arith)) (all 1 0 (omega arith)) change,
  alternates-map S R S' R' P f (b ∷ rest) (All-tail P a (b ∷ rest) all) other one turns,
)

-- rising places stay so where each two that have a property do
rising-map : (P : ℕ → Type 0) (f : ℕ → ℕ) (places : List ℕ) → All P places
    → ((j k : ℕ) → P j → P k → j < k → f j < f k) → IsStrictlyIncreasing places → IsStrictlyIncreasing (map f places)
rising-map P f places all grows rising k within =
    let long = length-map places f in
    let here = get_or-map f places k 0 0 (omega arith) in
    let next = get_or-map f places (k + 1) 0 0 (omega arith) in
    rw (here, next)
    (grows (get_or places k 0) (get_or places (k + 1) 0) (all k 0 (omega arith)) (all (k + 1) 0 (omega arith)) (rising k (omega arith)))

-- a chain of one sort of changes is one of another, by a map of its places
chain-map : (R S R' S' : ℕ → ℕ → Type 0) (start window start' window' : ℕ) (f : ℕ → ℕ) (places : List ℕ)
    → ((k : ℕ) → (start ≤ k) × (k ≤ start + window) → (start' ≤ f k) × (f k ≤ start' + window'))
    → ((j k : ℕ) → (start ≤ j) × (j ≤ start + window) → (start ≤ k) × (k ≤ start + window) → j < k → f j < f k)
    → ((j k : ℕ) → (start ≤ j) × (j ≤ start + window) → (start ≤ k) × (k ≤ start + window) → R j k → R' (f j) (f k))
    → ((j k : ℕ) → (start ≤ j) × (j ≤ start + window) → (start ≤ k) × (k ≤ start + window) → S j k → S' (f j) (f k))
    → IsChain R S start window places → IsChain R' S' start' window' (map f places)
chain-map R S R' S' start window start' window' f places inside grows one other chain =
    let P : ℕ → Type 0 = λ k. (start ≤ k) × (k ≤ start + window) in
    record {
      nine = length-map places f ∙ chain.nine;
      rising = rising-map P f places chain.within grows chain.rising;
      within = All-map (λ k. (start' ≤ k) × (k ≤ start' + window')) f places (λ k d below. inside (get_or places k d) (chain.within k d below));
      alternates = elim chain.alternates [
        | inl turns ↦ inl (alternates-map R S R' S' P f places chain.within one other turns)
        | inr turns ↦ inr (alternates-map S R S' R' P f places chain.within other one turns)
      ];
    }

-- a change at two places of the list is one between their frames
change-seen : {C : Type 0} (Changes : C → C → Type 0) (seen : ℕ → C) (start window : ℕ) (items : List C) (j k : ℕ)
    → IsSeen seen start window items → j ≤ window → k ≤ window → IsChangeAt Changes items j k
    → Between Changes seen (start + j) (start + k)
change-seen Changes seen start window items j k are first second change =
    let earlier : change.earlier ≡ seen (start + j) = cc (are.each j first, change.is_earlier) in
    let later : change.later ≡ seen (start + k) = cc (are.each k second, change.is_later) in
    rw (earlier, later) at change.changes

-- and a change between two frames of the window is one at their places
seen-change : {C : Type 0} (Changes : C → C → Type 0) (seen : ℕ → C) (start window : ℕ) (items : List C) (j k : ℕ)
    → IsSeen seen start window items → (start ≤ j) × (j ≤ start + window) → (start ≤ k) × (k ≤ start + window)
    → Between Changes seen j k → IsChangeAt Changes items (j - start) (k - start)
seen-change Changes seen start window items j k are first second change =
    let at_j : start + (j - start) ≡ j = omega arith in
    let at_k : start + (k - start) ≡ k = omega arith in
    record {
      earlier = seen j;
      later = seen k;
      is_earlier = are.each (j - start) (omega arith) ∙ ap (λ n. Some (seen n)) at_j;
      is_later = are.each (k - start) (omega arith) ∙ ap (λ n. Some (seen n)) at_k;
      changes = change;
    }

-- the list has a chain exactly where the window has one
pub has_chain-seen : {C : Type 0} (Up Down : C → C → Type 0) (seen : ℕ → C) (start window : ℕ) (items : List C)
    → IsSeen seen start window items → HasChainOf Up Down items ↔ HasChain Up Down seen start window
has_chain-seen Up Down seen start window items are = (
  λ has. (
    map (λ k. start + k) has.0,
    chain-map (IsChangeAt Up items) (IsChangeAt Down items) (Between Up seen) (Between Down seen) 0 (length items - 1) start window
        (λ k. start + k) has.0 (λ k within. (omega (arith, are.whole), omega (arith, are.whole))) (λ j k one other less. omega arith)
        (λ j k one other. change-seen Up seen start window items j k are (omega (arith, are.whole)) (omega (arith, are.whole)))
        (λ j k one other. change-seen Down seen start window items j k are (omega (arith, are.whole)) (omega (arith, are.whole)))
        has.1,
  ),
  λ has. (
    map (λ k. k - start) has.0,
    chain-map (Between Up seen) (Between Down seen) (IsChangeAt Up items) (IsChangeAt Down items) start window 0 (length items - 1)
        (λ k. k - start) has.0 (λ k within. (omega (arith, are.whole), omega (arith, are.whole))) (λ j k one other less. omega arith)
        (λ j k one other. seen-change Up seen start window items j k are one other)
        (λ j k one other. seen-change Down seen start window items j k are one other)
        has.1,
  ),
)
