-- The winners of some declarations, and of one more.
use Rattle.std.proofs.Common.{◌≡◌, ℕ, false, List, [], ◌∷◌, ◌++◌, Option, Some, None, refl, sym, ap, subst, arith, inl, inr, fold, All, Contains, append-nil, append_assoc}
use Rattle.std.specs.Prelude.{◌==◌}
use Rattle.std.proofs.lemmas.Bool.{cases_Bool, eqb-true, eqb-false, eq-eqb, ne_eqb}
use Rattle.std.proofs.lemmas.List.Elements.{All-nil, All-push, All-weaker, All-contains, Contains-push, Contains-append_left, filter-append}
use Rattle.page_model.specs.Cascade.{Candidate, Winners, IsWinning, is_beaten_by, number_of, of_property}
use Rattle.cascade_winners.specs.Offers.{better, offered}
use Rattle.cascade_winners.specs.Views.{no_winners}
use Rattle.cascade_winners.proofs.OrderLemmas.{unbeaten_by_itself, unbeaten_through, same_unless_beaten}

-- the winner of some declarations and one more
won_more : (candidates : List Candidate) (best : Option Candidate) (candidate : Candidate) → IsWinning candidates best → IsWinning (candidates ++ candidate ∷ []) (Some (better best candidate))
won_more candidates None candidate none =
    let P = λ (c : Candidate). is_beaten_by candidate.weight c.weight ≡ false in
    (Contains-push candidates candidate, All-push P candidates candidate (subst (All P) (sym none) (All-nil P)) (unbeaten_by_itself candidate.weight))
won_more candidates (Some winner) candidate won =
    elim (cases_Bool (is_beaten_by winner.weight candidate.weight)) [
      | inl beaten ↦ rw beaten (
        Contains-push candidates candidate,
        All-push (λ (c : Candidate). is_beaten_by candidate.weight c.weight ≡ false) candidates candidate
            (All-weaker (λ (c : Candidate). is_beaten_by winner.weight c.weight ≡ false) (λ (c : Candidate). is_beaten_by candidate.weight c.weight ≡ false) (λ c unbeaten. unbeaten_through winner.weight candidate.weight c.weight beaten unbeaten) candidates won.1)
            (unbeaten_by_itself candidate.weight),
      )
      | inr unbeaten ↦ rw unbeaten (
        Contains-append_left candidates (candidate ∷ []) winner won.0,
        All-push (λ (c : Candidate). is_beaten_by winner.weight c.weight ≡ false) candidates candidate won.1 unbeaten,
      )
    ]

-- the winners of each property
abbrev pub AreBest : List Candidate → Winners → Type 0
AreBest candidates winners = (property : ℕ) → IsWinning (of_property property candidates) (winners property)

best_more : (candidates : List Candidate) (winners : Winners) (candidate : Candidate) → AreBest candidates winners → AreBest (candidates ++ candidate ∷ []) (offered winners candidate)
best_more candidates winners candidate best property =
    let test = λ (c : Candidate). number_of c.longhand == property in
    let number = number_of candidate.longhand in
    elim (cases_Bool (number == property)) [
      | inl is ↦
          rw (filter-append test candidates (candidate ∷ []), is, eq-eqb property number (sym (eqb-true number property is)))
          (won_more (of_property property candidates) (winners property) candidate (best property))
      | inr other ↦
          rw (filter-append test candidates (candidate ∷ []), other, ne_eqb property number (λ same. eqb-false number property other (sym same)), append-nil (of_property property candidates))
          (best property)
    ]

best_fold : (done rest : List Candidate) (winners : Winners) → AreBest done winners → AreBest (done ++ rest) (fold offered winners rest)
best_fold done [] winners best = rw (append-nil done) best
best_fold done (candidate ∷ rest) winners best =
    subst (λ all. AreBest all (fold offered winners (candidate ∷ rest))) (append_assoc done (candidate ∷ []) rest) (best_fold (done ++ candidate ∷ []) rest (offered winners candidate) (best_more done winners candidate best))

-- who is left after all were offered wins
pub fold_wins : (candidates : List Candidate) → AreBest candidates (fold offered no_winners candidates)
fold_wins candidates = best_fold [] candidates no_winners (λ property. refl)

empty_has_none : (candidates : List Candidate) (c : Candidate) → candidates ≡ [] → Contains candidates c → ⊥
empty_has_none [] c empty held = omega (arith, held.1)
empty_has_none (d ∷ rest) c empty held = cc

-- there is one winner, where each weight is of one declaration
pub one_winner : (candidates : List Candidate) (one other : Option Candidate) → ((c d : Candidate) → Contains candidates c → Contains candidates d → c.weight ≡ d.weight → c ≡ d) → IsWinning candidates one → IsWinning candidates other → one ≡ other
one_winner candidates None None told first second = refl
one_winner candidates None (Some d) told first second = absurd (empty_has_none candidates d first second.0)
one_winner candidates (Some c) None told first second = absurd (empty_has_none candidates c second first.0)
one_winner candidates (Some c) (Some d) told first second =
    let unbeaten = All-contains (λ (e : Candidate). is_beaten_by c.weight e.weight ≡ false) candidates d first.1 second.0 in
    let other = All-contains (λ (e : Candidate). is_beaten_by d.weight e.weight ≡ false) candidates c second.1 first.0 in
    ap Some (told c d first.0 second.0 (same_unless_beaten c.weight d.weight unbeaten other))
