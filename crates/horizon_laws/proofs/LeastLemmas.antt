-- Least numbers: there is at most one, and there is one where the property can be decided.
use Rattle.std.proofs.Common.{◌≡◌, ℕ, zero, suc, ◌<◌, List, arith, inl, inr, subst}
use Rattle.std.specs.Prelude.{◌⊎◌}
use Rattle.std.proofs.lemmas.Bool.{cases_lt}
use Rattle.page_model.specs.declared.animation.Anim.{Anim}
use Rattle.page_model.specs.declared.setup.Setup.{Setup}
use Rattle.page_model.specs.Horizon.{IsNeeded}
use Rattle.page_model.specs.Least.{IsLeast}

-- two least numbers are one
pub IsLeast-unique : (P : ℕ → Type 0) (one other : ℕ) → IsLeast P one → IsLeast P other → one ≡ other
IsLeast-unique P one other first second =
    let below = first.least other second.holds in
    let above = second.least one first.holds in
    omega arith

-- so are two numbers of needed frames
pub needed-unique : (setup : Setup) (anims : List Anim) (one other : ℕ) → IsNeeded setup anims one → IsNeeded setup anims other → one ≡ other
needed-unique setup anims one other first second =
    let settled = IsLeast-unique _ _ _ first.horizon.settled_is second.horizon.settled_is in
    let period = IsLeast-unique _ _ _ first.horizon.period_is second.horizon.period_is in
    let sum = first.needed_is in
    let again = second.needed_is in
    omega arith

-- the property holds of a number, or it does not
abbrev pub IsDecided : (ℕ → Type 0) → Type 0
IsDecided P = (n : ℕ) → P n ⊎ (P n → ⊥)

-- either there is a least number below a limit, or the property holds of none below it
abbrev LeastBelow : (ℕ → Type 0) → ℕ → Type 0
LeastBelow P limit = ((n : ℕ) × IsLeast P n) ⊎ ((n : ℕ) → n < limit → P n → ⊥)

least_here : (P : ℕ → Type 0) (limit : ℕ) → ((n : ℕ) → n < limit → P n → ⊥) → P limit → IsLeast P limit
least_here P limit none here = record {
  holds = here;
  least = λ m holds. elim (cases_lt m limit) [ inl below ↦ absurd (none m below holds) | inr above ↦ above ];
}

none_here : (P : ℕ → Type 0) (limit : ℕ) → ((n : ℕ) → n < limit → P n → ⊥) → (P limit → ⊥) → (n : ℕ) → n < suc limit → P n → ⊥
none_here P limit none fails n below holds =
    elim (cases_lt n limit) [
      | inl before ↦ none n before holds
      | inr after ↦ let same : n ≡ limit = omega arith in fails (subst P same holds)
    ]

least_below : (P : ℕ → Type 0) → IsDecided P → (limit : ℕ) → LeastBelow P limit
least_below P decided zero = inr (λ n below holds. omega arith)
least_below P decided (suc limit) =
    elim (least_below P decided limit) [
      | inl found ↦ inl found
      | inr none ↦ elim (decided limit) [
        | inl here ↦ inl (limit, least_here P limit none here)
        | inr fails ↦ inr (none_here P limit none fails)
      ]
    ]

-- where the property holds of some number, there is a least one
pub IsLeast-exists : (P : ℕ → Type 0) → IsDecided P → (n : ℕ) → P n → (m : ℕ) × IsLeast P m
IsLeast-exists P decided n holds =
    elim (least_below P decided (suc n)) [
      | inl found ↦ found
      | inr none ↦ absurd (none n (omega arith) holds)
    ]
