-- The first pixel's tint is that of all.
use Rattle.std.proofs.Common.{ℕ, ◌≡◌, ◌∙◌, refl, rules, subst, sym}
use Rattle.frame_state.specs.States.{states_as}
use Rattle.even_parts.specs.Even.{ArePaintedEvenly}
use Rattle.even_parts.proofs.EvenLemmas.{tint-even}
use Rattle.witness_checks.proofs.tints.has_tint_evenly.Goals as goal

pub returns : goal.returns
returns c so =
    let same : c.tint_of.result ≡ c.args.tint = search rules in
    tint-even c.args.scene.now (states_as c.args.states.now) c.args.part.now c.args.tint c.requires.valid
    (subst (λ (n : ℕ). ArePaintedEvenly (states_as c.args.states.now) n c.args.part.now) c.requires.states (c.if-not-are_painted_evenly.ensures refl))
    (sym c.tint_of.ensures.value ∙ same)
