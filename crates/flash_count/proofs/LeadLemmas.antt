-- Changes in turn that lead to a frame, told from their start as places that follow one another, and chains by them.
use Rattle.std.proofs.Common.{ℕ, zero, suc, ◌≡◌, ◌⊎◌, ◌+◌, ◌∙◌, List, [], ◌∷◌, length, arith, inl, inr, refl, subst, sym}
use Rattle.flash_count.specs.Chains.{HasChainOf, IsChangeAt}
use Rattle.tint_changes.specs.Runs.{Follows, IsRun}
use Rattle.flash_rows.specs.Starts.{Leads}
use Rattle.tint_changes.proofs.ChainLemmas.{chain-run, run-chain}

-- of two sorts in turn, the one that comes after so many
abbrev pub in_turn : ℕ → (ℕ → ℕ → Type 0) → (ℕ → ℕ → Type 0) → ℕ → ℕ → Type 0
in_turn zero R S = R
in_turn (suc n) R S = in_turn n S R

leads-follows : (R S : ℕ → ℕ → Type 0) (n start end : ℕ) (rest : List ℕ) → Leads R S n start end → Follows S R end rest
    → (all : List ℕ) × (length all ≡ n + length rest) × Follows (in_turn n S R) (in_turn n R S) start all
leads-follows R S zero start end rest leads follows =
    (rest, omega arith, subst (λ k. Follows S R k rest) (sym leads) follows)
leads-follows R S (suc n) start end rest (middle, before, change, leads) follows =
    let more = leads-follows S R n start middle (end ∷ rest) leads (before, change, follows) in
    (more.0, more.1 ∙ omega arith, more.2)

follows-leads : (R S : ℕ → ℕ → Type 0) (n all start middle : ℕ) (rest : List ℕ) → n + length rest ≡ all → Leads R S n start middle
    → Follows S R middle rest → (end : ℕ) × Leads (in_turn (length rest) R S) (in_turn (length rest) S R) all start end
follows-leads R S n all start middle [] count leads follows =
    let same : n ≡ all = omega arith in (middle, subst (λ m. Leads R S m start middle) same leads)
follows-leads R S n all start middle (k ∷ rest) count leads (before, change, follows) =
    follows-leads S R (suc n) all start k rest (omega arith) (middle, before, change, leads) follows

-- eight changes that lead from a start to an end are a run of nine places
leads-run : (R S : ℕ → ℕ → Type 0) (start end : ℕ) → Leads S R 8 start end → (places : List ℕ) × IsRun R S places
leads-run R S start end leads =
    let all = leads-follows S R 8 start end [] leads tt in
    (start ∷ all.0, (omega (arith, all.1), all.2))

run-leads : (R S : ℕ → ℕ → Type 0) (places : List ℕ) → IsRun R S places → (start end : ℕ) × Leads S R 8 start end
run-leads R S [] run = absurd run
run-leads R S (place ∷ rest) (long, follows) =
    let led = follows-leads S R 0 8 place place rest (omega (arith, long)) refl follows in
    (place, led.0, subst (λ l. Leads (in_turn l S R) (in_turn l R S) 8 place led.0) long led.1)

-- so a list has a chain exactly where eight changes in turn lead from some place to another
pub leads-chain : {C : Type 0} (Up Down : C → C → Type 0) (items : List C) (start end : ℕ)
    → Leads (IsChangeAt Up items) (IsChangeAt Down items) 8 start end ⊎ Leads (IsChangeAt Down items) (IsChangeAt Up items) 8 start end
    → HasChainOf Up Down items
leads-chain Up Down items start end (inl leads) =
    let run = leads-run (IsChangeAt Down items) (IsChangeAt Up items) start end leads in
    (run.0, chain-run Up Down items run.0 (inr run.1))
leads-chain Up Down items start end (inr leads) =
    let run = leads-run (IsChangeAt Up items) (IsChangeAt Down items) start end leads in
    (run.0, chain-run Up Down items run.0 (inl run.1))

pub chain-leads : {C : Type 0} (Up Down : C → C → Type 0) (items : List C) → HasChainOf Up Down items
    → (start end : ℕ)
    × (Leads (IsChangeAt Up items) (IsChangeAt Down items) 8 start end ⊎ Leads (IsChangeAt Down items) (IsChangeAt Up items) 8 start end)
chain-leads Up Down items has =
    elim (run-chain Up Down items has.0 has.1) [
      | inl run ↦
          let led = run-leads (IsChangeAt Up items) (IsChangeAt Down items) has.0 run in (led.0, led.1, inr led.2)
      | inr run ↦
          let led = run-leads (IsChangeAt Down items) (IsChangeAt Up items) has.0 run in (led.0, led.1, inl led.2)
    ]
