-- Chains of changes of any sort, over any type of what is seen: they carry over where their changes do, and how many frames they
-- need.
use Rattle.std.proofs.Common.{◌≡◌, ℕ, zero, suc, ◌+◌, ◌<◌, ◌≤◌, List, [], ◌∷◌, length, get_or, inl, inr, arith}
use Rattle.std.specs.Prelude.{All}
use Rattle.std.specs.List.{AllPairs}
use Rattle.std.specs.List.Sorted.{IsStrictlyIncreasing}
use Rattle.std.proofs.lemmas.List.Elements.{All-head, All-tail, All-weaker}
use Rattle.std.proofs.lemmas.List.Kept.{AllPairs-from_increasing}
use Rattle.page_model.specs.Flash.{Alternates, IsChain, Between, HasChain}
use Rattle.flash_laws.specs.FlagLaws.{CarriesOver}

-- a frame of a window
abbrev pub IsInWindow : ℕ → ℕ → ℕ → Type 0
IsInWindow start window k = (start ≤ k) × (k ≤ start + window)

-- over frames of a window that rise
pub alternates-carried : (First Second First' Second' : ℕ → ℕ → Type 0) (start window : ℕ)
    → CarriesOver start window First First' → CarriesOver start window Second Second' → (frames : List ℕ)
    → AllPairs (λ j k. j < k) frames → All (IsInWindow start window) frames → Alternates First Second frames
    → Alternates First' Second' frames
alternates-carried First Second First' Second' start window first second [] rising within chain = tt
alternates-carried First Second First' Second' start window first second (a ∷ []) rising within chain = tt
alternates-carried First Second First' Second' start window first second (a ∷ (b ∷ rest)) rising within chain =
    let here = All-head (IsInWindow start window) a (b ∷ rest) within in
    let later = All-tail (IsInWindow start window) a (b ∷ rest) within in
    let next = All-head (IsInWindow start window) b rest later in (
      first a b here.0 (rising 0 1 a (omega arith) (omega arith)) next.1 chain.0,
      alternates-carried Second First Second' First' start window second first (b ∷ rest)
          (λ i j d less below. rising (suc i) (suc j) d (omega arith) (omega arith)) later chain.1,
    )

-- a chain is one of the other sorts of changes
pub chain-carried : (Up Down Up' Down' : ℕ → ℕ → Type 0) (start window : ℕ)
    → CarriesOver start window Up Up' → CarriesOver start window Down Down' → (frames : List ℕ)
    → IsChain Up Down start window frames → IsChain Up' Down' start window frames
chain-carried Up Down Up' Down' start window up down frames chain = record {
  nine = chain.nine;
  rising = chain.rising;
  within = chain.within;
  alternates = elim chain.alternates [
    | inl first_up ↦ inl (alternates-carried Up Down Up' Down' start window up down frames (AllPairs-from_increasing frames chain.rising) chain.within first_up)
    | inr first_down ↦ inr (alternates-carried Down Up Down' Up' start window down up frames (AllPairs-from_increasing frames chain.rising) chain.within first_down)
  ];
}

-- what is seen has a chain where what else is seen has one
pub has_chain-carried : {C D : Type 0} (Up Down : C → C → Type 0) (Up' Down' : D → D → Type 0) (seen : ℕ → C) (seen' : ℕ → D)
    (start window : ℕ) → CarriesOver start window (Between Up seen) (Between Up' seen')
    → CarriesOver start window (Between Down seen) (Between Down' seen')
    → HasChain Up Down seen start window → HasChain Up' Down' seen' start window
has_chain-carried Up Down Up' Down' seen seen' start window up down chain =
    (chain.0, chain-carried (Between Up seen) (Between Down seen) (Between Up' seen') (Between Down' seen') start window up down chain.0 chain.1)

-- a chain of a window is one of each window that holds it
pub has_chain-longer : {C : Type 0} (Up Down : C → C → Type 0) (seen : ℕ → C) (start window from longer : ℕ)
    → from ≤ start → start + window ≤ from + longer → HasChain Up Down seen start window → HasChain Up Down seen from longer
has_chain-longer Up Down seen start window from longer before after chain = (
  chain.0,
  record {
    nine = chain.1.nine;
    rising = chain.1.rising;
    within = All-weaker (IsInWindow start window) (IsInWindow from longer) (λ k h. (omega (arith, h.0), omega (arith, h.1))) chain.0 chain.1.within;
    alternates = chain.1.alternates;
  },
)

-- nine rising frames are in no window of eight
pub chain-nine : (Up Down : ℕ → ℕ → Type 0) (start window : ℕ) (frames : List ℕ) → IsChain Up Down start window frames
    → 8 ≤ window
chain-nine Up Down start window frames chain =
    let last = steps frames chain.rising 8 (omega (arith, chain.nine)) in
    let low = chain.within 0 0 (omega (arith, chain.nine)) in
    let high = chain.within 8 0 (omega (arith, chain.nine)) in
    omega (arith, last, low.0, high.1) where
      steps : (frames : List ℕ) → IsStrictlyIncreasing frames → (k : ℕ) → k < length frames → get_or frames 0 0 + k ≤ get_or frames k 0
      steps frames rising zero below = omega arith
      steps frames rising (suc k) below =
          let so_far = steps frames rising k (omega arith) in
          let next = rising k (omega arith) in
          let same : k + 1 ≡ suc k = omega arith in
          let moved = rw same at next in
          omega (arith, so_far, moved)

-- a chain has a change
pub chain-changes : (Up Down : ℕ → ℕ → Type 0) (start window : ℕ) (frames : List ℕ) → IsChain Up Down start window frames
    → ((j k : ℕ) → Up j k → ⊥) → ((j k : ℕ) → Down j k → ⊥) → ⊥
chain-changes Up Down start window [] chain up down = absurd (omega (arith, chain.nine))
chain-changes Up Down start window (a ∷ []) chain up down = absurd (omega (arith, chain.nine))
chain-changes Up Down start window (a ∷ (b ∷ rest)) chain up down =
    elim chain.alternates [
      | inl first_up ↦ up a b first_up.0
      | inr first_down ↦ down a b first_down.0
    ]
