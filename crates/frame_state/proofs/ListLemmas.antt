-- The states of layers after one is written.
use Rattle.std.proofs.Common.{◌≡◌, ◌≢◌, ℕ, ◌+◌, ◌<◌, List, get_or, length, option_map, unwrap_or, arith, ap, ◌∙◌, sym, subst, inl, inr, get_or-set_other, get_or-set_same}
use Rattle.std.proofs.lemmas.Bool.{cases_eq}
use Rattle.std.proofs.lemmas.Option.{slice_get-get_or}
use Rattle.std.proofs.Math.ListN.{set, length-set}
use Rattle.page_model.specs.Enclosure.{LooseState}
use Rattle.frame_state.specs.declared.types.LayerState.{LayerState}
use Rattle.frame_state.specs.States.{nothing, state_as, states_as}

pub states_as-there : (xs : List LayerState) (i : ℕ) (d : LayerState) → i < length xs → states_as xs i ≡ state_as (get_or xs i d)
states_as-there xs i d inside = ap (λ o. unwrap_or (option_map state_as o) nothing) (slice_get-get_or xs i d inside)

states_as-set_same : (xs : List LayerState) (i : ℕ) (state : LayerState) → i < length xs → states_as (set xs i state) i ≡ state_as state
states_as-set_same xs i state inside =
    states_as-there (set xs i state) i state (omega (arith, length-set xs i state)) ∙ ap state_as (get_or-set_same xs i state state inside)

states_as-set_other : (xs : List LayerState) (i j : ℕ) (state : LayerState) → j ≢ i → j < length xs → states_as (set xs i state) j ≡ states_as xs j
states_as-set_other xs i j state apart inside =
    states_as-there (set xs i state) j state (omega (arith, length-set xs i state))
    ∙ ap state_as (get_or-set_other xs i j state state apart) ∙ sym (states_as-there xs j state inside)

-- what holds of the states below a place and of the one that is written there
pub states_more : (P : ℕ → LooseState → Type 0) (xs : List LayerState) (i : ℕ) (state : LayerState) → i < length xs
    → ((number : ℕ) → number < i → P number (states_as xs number)) → P i (state_as state)
    → (number : ℕ) → number < i + 1 → P number (states_as (set xs i state) number)
states_more P xs i state inside below here number within =
    elim (cases_eq number i) [
      | inl same ↦
          subst (λ n. P n (states_as (set xs i state) n)) (sym same) (subst (P i) (sym (states_as-set_same xs i state inside)) here)
      | inr apart ↦ subst (P number) (sym (states_as-set_other xs i number state apart (omega arith))) (below number (omega arith))
    ]
