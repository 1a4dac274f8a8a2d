-- The states that are kept are of the own kind, so by all states of that kind the tints are those painted.
use Rattle.std.proofs.Common.{ℕ, subst, sym}
use Rattle.page_model.specs.Enclosure.{LooseState}
use Rattle.page_model.specs.TintOf.{tint_of}
use Rattle.frame_state.specs.States.{AreOwn, states_as}
use Rattle.witness_checks.specs.Kept.{AreStatesIn}
use Rattle.even_parts.specs.Even.{AllHaveTint}
use Rattle.witness_checks.specs.OwnTints.{IsFirstWrongOf}
use Rattle.witness_checks.proofs.TintLemmas.{all-same, first_wrong-same, matched, own-tint-same}
use Rattle.witness_checks.proofs.tints.wrong_in_frame.Goals as goal

pub wrong_by_states-requires-clause-ready : goal.wrong_by_states-requires-clause-ready
wrong_by_states-requires-clause-ready c =
    let kept : AreStatesIn c.args.scene.now c.args.setup.now c.args.frame c.states.result.now =
    subst (AreStatesIn c.args.scene.now c.args.setup.now c.args.frame) (sym c.states.ensures.value) (c.see.ensures.kept c.args.frame c.see.ensures.frame) in
    kept.ready

pub returns-clause-wrong : goal.returns-clause-wrong
returns-clause-wrong c =
    let kept : AreStatesIn c.args.scene.now c.args.setup.now c.args.frame c.states.result.now =
    subst (AreStatesIn c.args.scene.now c.args.setup.now c.args.frame) (sym c.states.ensures.value) (c.see.ensures.kept c.args.frame c.see.ensures.frame) in
    let written : ℕ → LooseState = states_as c.states.result.now in
    let same = own-tint-same c.args.scene.now c.args.setup.now c.args.frame written in
    matched c.wrong_by_states.result (AllHaveTint (tint_of c.args.scene.now written) c.args.part.now c.args.tint)
    ((states : ℕ → LooseState) → AreOwn c.args.scene.now c.args.setup.now c.args.frame states
    → AllHaveTint (tint_of c.args.scene.now states) c.args.part.now c.args.tint)
    (λ pixel. IsFirstWrongOf (tint_of c.args.scene.now written) c.args.part.now c.args.tint pixel.x pixel.y)
    (λ pixel. (states : ℕ → LooseState) → AreOwn c.args.scene.now c.args.setup.now c.args.frame states
    → IsFirstWrongOf (tint_of c.args.scene.now states) c.args.part.now c.args.tint pixel.x pixel.y)
    c.wrong_by_states.ensures
    (λ have states are.
    all-same (tint_of c.args.scene.now written) (tint_of c.args.scene.now states) c.args.part.now c.args.tint
    (same states c.requires.valid kept.own_states are) have)
    (λ pixel first states are.
    first_wrong-same (tint_of c.args.scene.now written) (tint_of c.args.scene.now states) c.args.part.now c.args.tint pixel.x pixel.y
    (same states c.requires.valid kept.own_states are) first)
