-- The first part of which something doesn't hold: what a walk over the parts keeps, and where it ends.
use Rattle.std.proofs.Common.{◌≡◌, ℕ, ◌+◌, ◌<◌, ◌≤◌, List, [], All, Some, get_or, length, slice_get, ap, arith, inl, inr, subst, sym}
use Rattle.std.proofs.lemmas.Bool.{cases_lt}
use Rattle.std.proofs.lemmas.Option.{get_or_from_slice_get, slice_get-get_or}
use Rattle.page_model.specs.declared.witness.Kind.TheVariants.{General}
use Rattle.page_model.specs.declared.witness.Part.{Part}
use Rattle.witness_checks.specs.Faults.{IsFirstPart}
use Rattle.witness_checks.specs.Turns.{Changes, IsFirstStop, Stops}

-- what a part is where there is none
abbrev pub no_part : Part
no_part = record { x = 0; y = 0; width = 0; height = 0; kind = General; frames = []; tints = [] }

-- it holds of the parts before a place
abbrev pub HoldsBefore : (Part → Type 0) → List Part → ℕ → Type 0
HoldsBefore Holds parts number = (k : ℕ) (other : Part) → k < number → slice_get parts k ≡ Some other → Holds other

pub before-none : (Holds : Part → Type 0) (parts : List Part) → HoldsBefore Holds parts 0
before-none Holds parts k other less there = absurd (omega arith)

pub before-more : (Holds : Part → Type 0) (parts others : List Part) (number : ℕ) (d : Part) → others ≡ parts → HoldsBefore Holds parts number
    → Holds (get_or others number d) → HoldsBefore Holds parts (number + 1)
before-more Holds parts others number d same before here k other less there =
    elim (cases_lt k number) [
      | inl earlier ↦ before k other earlier there
      | inr later ↦
          let at : number ≡ k = omega arith in
          subst Holds (get_or_from_slice_get parts k other d there)
          (subst (λ (n : ℕ). Holds (get_or parts n d)) at (subst (λ (list : List Part). Holds (get_or list number d)) same here))
    ]

pub before-all : (Holds : Part → Type 0) (parts others : List Part) (number : ℕ) → others ≡ parts → length others ≤ number
    → HoldsBefore Holds parts number → All Holds parts
before-all Holds parts others number same past before k d within =
    before k (get_or parts k d) (omega (arith, ap length same)) (slice_get-get_or parts k d within)

pub first-here : (Holds : Part → Type 0) (parts others : List Part) (number : ℕ) (d : Part) → others ≡ parts → number < length others
    → HoldsBefore Holds parts number → (Holds (get_or others number d) → ⊥) → IsFirstPart Holds parts number
first-here Holds parts others number d same within before broken = record {
  part = get_or parts number d;
  there = slice_get-get_or parts number d (subst (λ (list : List Part). number < length list) same within);
  broken = λ here. broken (subst (λ (list : List Part). Holds (get_or list number d)) (sym same) here);
  before = before;
}

-- the same of a part whose tints cease to change
pub stop-here : (parts others : List Part) (number turn : ℕ) (d : Part) → others ≡ parts → number < length others → HoldsBefore Changes parts number
    → Stops (get_or others number d) turn → IsFirstStop parts number turn
stop-here parts others number turn d same within before stops = record {
  part = get_or parts number d;
  there = slice_get-get_or parts number d (subst (λ (list : List Part). number < length list) same within);
  here = subst (λ (list : List Part). Stops (get_or list number d) turn) same stops;
  before = before;
}
