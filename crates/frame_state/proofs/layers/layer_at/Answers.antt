-- What was found is what the ways of the layer's courses make.
use Rattle.std.proofs.Common.{◌≡◌, ◌∙◌, refl, subst, sym}
use Rattle.page_model.specs.declared.scene.Layer.{Layer}
use Rattle.page_model.specs.Enclosure.{LooseState, IsLooseStateAt, own}
use Rattle.tint_laws.specs.TintLaws.{StateWithin}
use Rattle.tint_laws.proofs.KindLemmas.{state-in}
use Rattle.tint_laws.proofs.WindowLemmas.{layer-at, state-within}
use Rattle.frame_state.specs.States.{IsInSlots, state_as, state_by}
use Rattle.frame_state.proofs.PickLemmas.{course_way, state-read}
use Rattle.frame_state.proofs.StateLemmas.{read-is, state_by-exact, state_by-in_slots, state_by-own}
use Rattle.frame_state.proofs.layers.layer_at.Goals as goal
use Rattle.std.specs.Prelude.{Some, slice_get}

state-is : (c : goal.After-state_of) (l : Layer) → slice_get c.args.scene.now.layers c.args.layer ≡ Some l
    → state_as c.state_of.result ≡ state_by l (course_way c.args.scene.now c.args.setup.now c.args.k l)
state-is c l is =
    let element : Layer = c.index-as_slice-layer.result in
    let same : element ≡ l = read-is c.args.scene.now.layers c.as_slice.result.now c.args.layer l element c.index-as_slice-layer.is c.as_slice.ensures is in
    state-read c.args.scene.now c.args.setup.now c.args.k l element c.as_slice-2.result.now c.found_at-found.result.edges
    c.found_at-found.result.look (state_as c.state_of.result) same c.as_slice-2.ensures (c.found_at-found.ensures.edges l is)
    (c.found_at-found.ensures.look l is refl) c.state_of.ensures

pub returns-clause-own : goal.returns-clause-own
returns-clause-own c l is =
    subst (λ (s : LooseState). IsLooseStateAt own c.args.scene.now c.args.setup.now c.args.k l s) (sym (state-is c l is))
    (state_by-own c.args.scene.now c.args.setup.now c.args.k c.args.layer l c.requires.valid is)

pub returns-clause-holds : goal.returns-clause-holds
returns-clause-holds c l state is exact =
    state-within own c.args.scene.now c.args.setup.now c.args.k c.args.layer l (state_as c.state_of.result) state c.requires.valid is
    (returns-clause-own c l is) exact

pub returns-clause-wide : goal.returns-clause-wide
returns-clause-wide c l outer is loose =
    state-in c.args.scene.now c.args.setup.now c.args.k c.args.layer l outer (state_as c.state_of.result) c.requires.valid is loose
    (returns-clause-own c l is)

pub returns-clause-exact : goal.returns-clause-exact
returns-clause-exact c none l exact is state_is =
    state-is c l is ∙ state_by-exact c.args.scene.now c.args.setup.now c.args.k c.args.layer l exact none is
    (subst (λ (s : LooseState). StateWithin s exact) (state-is c l is) (returns-clause-holds c l exact is state_is))

pub returns-clause-ranges : goal.returns-clause-ranges
returns-clause-ranges c =
    let found = layer-at c.args.scene.now.layers c.args.layer c.requires.there in
    subst IsInSlots (sym (state-is c found.0 found.1))
    (state_by-in_slots found.0 (course_way c.args.scene.now c.args.setup.now c.args.k found.0))
