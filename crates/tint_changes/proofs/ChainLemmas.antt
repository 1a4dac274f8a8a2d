-- A chain of places is a run of nine, with either change first.
use Rattle.std.proofs.Common.{ℕ, zero, suc, ◌≡◌, ◌⊎◌, ◌+◌, ◌-◌, ◌<◌, ◌≤◌, List, [], ◌∷◌, length, get_or, arith, inl, inr, subst, ap}
use Rattle.std.specs.Prelude.{Option, Some, None}
use Rattle.std.specs.List.{All}
use Rattle.std.specs.List.Sorted.{IsStrictlyIncreasing}
use Rattle.std.proofs.lemmas.List.{get_or_default}
use Rattle.std.proofs.lemmas.Option.{slice_get_within}
use Rattle.page_model.specs.Flash.{Alternates}
use Rattle.tint_changes.specs.Chains.{IsChainOf, IsChangeAt}
use Rattle.tint_changes.specs.Counting.{AreCounts, Begins, IsCount, IsFirstFull}
use Rattle.tint_changes.specs.Runs.{FirstOf, Follows, IsRun}
use Rattle.tint_changes.proofs.RunLemmas.{begins-follows, follows-begins}

-- what rises, rises behind its first number
rising-rest : (place : ℕ) (rest : List ℕ) → IsStrictlyIncreasing (place ∷ rest) → IsStrictlyIncreasing rest
rising-rest place rest rising k within =
    let next : suc k + 1 ≡ suc (k + 1) = omega arith in
    subst (λ m. get_or rest k 0 < get_or (place ∷ rest) m 0) next (rising (suc k) (omega arith))

rising-more : (place : ℕ) (rest : List ℕ) → (0 < length rest → place < get_or rest 0 0)
    → IsStrictlyIncreasing rest → IsStrictlyIncreasing (place ∷ rest)
rising-more place rest above rising zero within = above (omega arith)
rising-more place rest above rising (suc k) within =
    let next : suc (k + 1) ≡ suc k + 1 = omega arith in
    subst (λ m. get_or rest k 0 < get_or (place ∷ rest) m 0) next (rising k (omega arith))

-- rising places whose changes are in turn follow one another
follows-rising : (R S : ℕ → ℕ → Type 0) (place : ℕ) (rest : List ℕ) → IsStrictlyIncreasing (place ∷ rest)
    → Alternates R S (place ∷ rest) → Follows R S place rest
follows-rising R S place [] rising turns = tt
follows-rising R S place (k ∷ rest) rising (change, turns) =
    let above : place < k = rising 0 (omega arith) in
    (above, change, follows-rising S R k rest (rising-rest place (k ∷ rest) rising) turns)

alternates-follows : (R S : ℕ → ℕ → Type 0) (place : ℕ) (rest : List ℕ) → Follows R S place rest
    → Alternates R S (place ∷ rest)
alternates-follows R S place [] follows = tt
alternates-follows R S place (k ∷ rest) (above, change, follows) = (change, alternates-follows S R k rest follows)

rising-follows : (R S : ℕ → ℕ → Type 0) (place : ℕ) (rest : List ℕ) → Follows R S place rest
    → IsStrictlyIncreasing (place ∷ rest)
rising-follows R S place [] follows = λ k within. absurd (omega arith)
rising-follows R S place (j ∷ rest) (above, change, follows) =
    rising-more place (j ∷ rest) (λ some. above) (rising-follows S R j rest follows)

-- both places of a change are within the list
pub change-within : {C : Type 0} (Changes : C → C → Type 0) (items : List C) (j k : ℕ) → IsChangeAt Changes items j k
    → (j < length items) × (k < length items)
change-within Changes items j k change =
    (slice_get_within items j change.earlier change.is_earlier, slice_get_within items k change.later change.is_later)

-- the places that follow one are within the list, and so is that one
within-follows : (R S : ℕ → ℕ → Type 0) (end place : ℕ) (rest : List ℕ) → ((j k : ℕ) → R j k → k < end)
    → ((j k : ℕ) → S j k → k < end) → place < end → Follows R S place rest
    → (k : ℕ) → k < length (place ∷ rest) → get_or (place ∷ rest) k 0 < end
within-follows R S end place [] one other here follows zero below = here
within-follows R S end place [] one other here follows (suc k) below = absurd (omega arith)
within-follows R S end place (j ∷ rest) one other here follows zero below = here
within-follows R S end place (j ∷ rest) one other here (above, change, follows) (suc k) below =
    within-follows S R end j rest other one (one place j change) follows k (omega arith)

-- a run from a place within a list is within it
run-within : (R S : ℕ → ℕ → Type 0) (end place : ℕ) (rest : List ℕ) → ((j k : ℕ) → R j k → (j < end) × (k < end))
    → ((j k : ℕ) → S j k → (j < end) × (k < end)) → length rest ≡ 8 → Follows R S place rest
    → All (λ k. (0 ≤ k) × (k ≤ 0 + (end - 1))) (place ∷ rest)
run-within R S end place [] one other long follows = absurd (omega arith)
run-within R S end place (j ∷ rest) one other long follows =
    λ k d below.
    let here : place < end = (one place j follows.1).0 in
    let inside : get_or (place ∷ (j ∷ rest)) k 0 < end =
    within-follows R S end place (j ∷ rest) (λ i m change. (one i m change).1) (λ i m change. (other i m change).1) here follows k below in
    let same : get_or (place ∷ (j ∷ rest)) k d ≡ get_or (place ∷ (j ∷ rest)) k 0 = get_or_default (place ∷ (j ∷ rest)) k d 0 below in
    (omega arith, omega arith)

-- places are a chain exactly where they are a run, with the one change first or the other
pub chain-run : {C : Type 0} (Up Down : C → C → Type 0) (items : List C) (places : List ℕ)
    → IsRun (IsChangeAt Up items) (IsChangeAt Down items) places ⊎ IsRun (IsChangeAt Down items) (IsChangeAt Up items) places
    → IsChainOf Up Down items places
chain-run Up Down items [] (inl run) = absurd run
chain-run Up Down items [] (inr run) = absurd run
chain-run Up Down items (place ∷ rest) (inl (long, follows)) = record {
  nine = ap suc long;
  rising = rising-follows (IsChangeAt Up items) (IsChangeAt Down items) place rest follows;
  within = run-within (IsChangeAt Up items) (IsChangeAt Down items) (length items) place rest
      (change-within Up items) (change-within Down items) long follows;
  alternates = inl (alternates-follows (IsChangeAt Up items) (IsChangeAt Down items) place rest follows);
}
chain-run Up Down items (place ∷ rest) (inr (long, follows)) = record {
  nine = ap suc long;
  rising = rising-follows (IsChangeAt Down items) (IsChangeAt Up items) place rest follows;
  within = run-within (IsChangeAt Down items) (IsChangeAt Up items) (length items) place rest
      (change-within Down items) (change-within Up items) long follows;
  alternates = inr (alternates-follows (IsChangeAt Down items) (IsChangeAt Up items) place rest follows);
}

run-turns : (R S : ℕ → ℕ → Type 0) (places : List ℕ) → length places ≡ 9 → IsStrictlyIncreasing places → Alternates R S places
    → IsRun R S places
run-turns R S [] nine rising turns = absurd (omega arith)
run-turns R S (place ∷ rest) nine rising turns = (omega arith, follows-rising R S place rest rising turns)

pub run-chain : {C : Type 0} (Up Down : C → C → Type 0) (items : List C) (places : List ℕ)
    → IsChainOf Up Down items places
    → IsRun (IsChangeAt Up items) (IsChangeAt Down items) places ⊎ IsRun (IsChangeAt Down items) (IsChangeAt Up items) places
run-chain Up Down items places chain =
    elim chain.alternates [
      | inl turns ↦ inl (run-turns (IsChangeAt Up items) (IsChangeAt Down items) places chain.nine chain.rising turns)
      | inr turns ↦ inr (run-turns (IsChangeAt Down items) (IsChangeAt Up items) places chain.nine chain.rising turns)
    ]

-- where a count is eight, there is a run from its place
pub run-full : (R S : ℕ → ℕ → Type 0) (place count : ℕ) → IsCount R S place count → count ≡ 8
    → (places : List ℕ) × IsRun R S places
run-full R S place count counted full =
    let run = follows-begins R S 8 place (counted.has 8 (omega arith)) in
    (place ∷ run.0, (run.1, run.2))

-- and where a run is from a place, its count is eight
pub full-run : (R S : ℕ → ℕ → Type 0) (place count : ℕ) (rest : List ℕ) → IsCount R S place count
    → IsRun R S (place ∷ rest) → count ≡ 8
full-run R S place count rest counted (long, follows) =
    let begins = subst (λ n. Begins R S n place) long (begins-follows R S place rest follows) in
    let most = counted.most 8 (omega arith) begins in
    omega (arith, counted.small)

-- and where there is none, there is no run
pub no_run-full : {C : Type 0} (Up Down : C → C → Type 0) (items : List C) (counts : List ℕ)
    → AreCounts (IsChangeAt Up items) (IsChangeAt Down items) 0 (length items) counts
    → IsFirstFull counts (length items) None
    → (places : List ℕ) → IsRun (IsChangeAt Up items) (IsChangeAt Down items) places → ⊥
no_run-full Up Down items counts are none [] run = run
no_run-full Up Down items counts are none (place ∷ []) run = absurd (omega (arith, run.0))
no_run-full Up Down items counts are none (place ∷ (k ∷ rest)) (long, (above, change, follows)) =
    let inside = (change-within Up items place k change).0 in
    none place inside (full-run (IsChangeAt Up items) (IsChangeAt Down items) place (get_or counts place 0) (k ∷ rest)
    (are place (omega arith) inside) (long, (above, change, follows)))

-- the first place whose count is eight is no later than the first of a run
pub first-full : {C : Type 0} (Up Down : C → C → Type 0) (items : List C) (counts : List ℕ) (start : ℕ)
    → AreCounts (IsChangeAt Up items) (IsChangeAt Down items) 0 (length items) counts
    → IsFirstFull counts (length items) (Some start)
    → (k : ℕ) (rest : List ℕ) → IsRun (IsChangeAt Up items) (IsChangeAt Down items) (k ∷ rest) → start ≤ k
first-full Up Down items counts start are full k [] run = absurd (omega (arith, run.0))
first-full Up Down items counts start are (inside, eight, first) k (j ∷ rest) (long, (above, change, follows)) =
    let within = (change-within Up items k j change).0 in
    first k within (full-run (IsChangeAt Up items) (IsChangeAt Down items) k (get_or counts k 0) (j ∷ rest)
    (are k (omega arith) within) (long, (above, change, follows)))

-- the first run with either change first is the first chain
pub first-chain : {C : Type 0} (Up Down : C → C → Type 0) (items : List C) (found : Option (List ℕ))
    → FirstOf (λ places. IsRun (IsChangeAt Up items) (IsChangeAt Down items) places ⊎ IsRun (IsChangeAt Down items) (IsChangeAt Up items) places) found
    → FirstOf (IsChainOf Up Down items) found
first-chain Up Down items None none = λ places chain. none places (run-chain Up Down items places chain)
first-chain Up Down items (Some places) first = record {
  has = chain-run Up Down items places first.has;
  first = λ others chain. first.first others (run-chain Up Down items others chain);
}
