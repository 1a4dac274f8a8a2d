-- The first trace of a list of tints, place by place.
use Rattle.std.proofs.Common.{ℕ, ◌≡◌, ◌+◌, ◌<◌, List, ◌∷◌, length, arith, subst, add-one}
use Rattle.page_model.specs.declared.colour.Tint.{Tint}
use Rattle.tint_changes.specs.declared.changes.Opposing.{Opposing}
use Rattle.tint_changes.specs.Counting.{Begins, CountsSecond, Makes, MakesAt}
use Rattle.tint_changes.specs.Runs.{FollowsFirstOf, LeadsOn, LeadsOnFirst}
use Rattle.tint_changes.proofs.ChainLemmas.{change-within}
use Rattle.tint_changes.proofs.RunLemmas.{follows_first-more}

-- where one change more can be had than so many, some place leads on
pub leads-begins : (opposing : Opposing) (tints : List Tint) (counts : List ℕ) (place more : ℕ)
    → CountsSecond opposing tints 0 counts → more < 8
    → Begins (MakesAt opposing.first tints) (MakesAt opposing.second tints) (more + 1) place
    → (k : ℕ) × (place < k) × (k < length tints) × LeadsOn opposing tints counts place more k
leads-begins opposing tints counts place more are few begins =
    let one = subst (λ n. Begins (MakesAt opposing.first tints) (MakesAt opposing.second tints) n place) (add-one more) begins in
    let k = one.0 in
    let change = one.2 in
    let inside = (change-within (Makes opposing.first) tints place k change).1 in
    (k, one.1, inside, record { change = change; enough = (are k (omega arith) inside).most more (omega arith) one.3 })

-- the first place that leads on, and then what follows it first
pub follows_first-leads : (opposing turned : Opposing) (tints : List Tint) (counts : List ℕ) (place next : ℕ) (rest : List ℕ)
    → turned.first ≡ opposing.second → turned.second ≡ opposing.first
    → CountsSecond opposing tints 0 counts → length rest < 8
    → LeadsOnFirst opposing tints counts place (length rest) next → FollowsFirstOf turned tints next rest
    → FollowsFirstOf opposing tints place (next ∷ rest)
follows_first-leads opposing turned tints counts place next rest one other are few leads follows =
    follows_first-more (MakesAt opposing.first tints) (MakesAt opposing.second tints) place next rest leads.behind leads.leads.change
    (λ k behind change begins.
    let inside = (change-within (Makes opposing.first) tints place k change).1 in
    leads.first k behind inside
    (record { change = change; enough = (are k (omega arith) inside).most (length rest) (omega arith) begins }))
    (rw (one, other) at follows)
