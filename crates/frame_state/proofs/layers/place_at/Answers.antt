-- What was found of the edges is what the ways of the layer's courses make.
use Rattle.std.proofs.Common.{◌≡◌, ◌∙◌, ap, subst, sym}
use Rattle.std.specs.Prelude.{Some, slice_get}
use Rattle.page_model.specs.declared.scene.Layer.{Layer}
use Rattle.page_model.specs.Enclosure.{LooseState, own}
use Rattle.tint_laws.proofs.WindowLemmas.{layer-at}
use Rattle.wide_laws.proofs.LooseLemmas.{loose_state-unique}
use Rattle.frame_state.specs.Places.{IsPlaceInSlots, place_as, place_in}
use Rattle.frame_state.specs.States.{state_by}
use Rattle.frame_state.proofs.PickLemmas.{course_way, place-read}
use Rattle.frame_state.proofs.StateLemmas.{read-is, state_by-in_slots, state_by-own}
use Rattle.frame_state.proofs.layers.place_at.Goals as goal

place-is : (c : goal.After-place_of) (l : Layer) → slice_get c.args.scene.now.layers c.args.layer ≡ Some l
    → place_as c.place_of.result ≡ place_in (state_by l (course_way c.args.scene.now c.args.setup.now c.args.k l))
place-is c l is =
    let element : Layer = c.index-as_slice-layer.result in
    let same : element ≡ l = read-is c.args.scene.now.layers c.as_slice.result.now c.args.layer l element c.index-as_slice-layer.is c.as_slice.ensures is in
    place-read c.args.scene.now c.args.setup.now c.args.k l element c.as_slice-2.result.now c.found_at-found.result.edges
    (place_as c.place_of.result) same c.as_slice-2.ensures (c.found_at-found.ensures.edges l is) c.place_of.ensures

pub returns-clause-own : goal.returns-clause-own
returns-clause-own c l is =
    let state : LooseState = state_by l (course_way c.args.scene.now c.args.setup.now c.args.k l) in
    let mine = state_by-own c.args.scene.now c.args.setup.now c.args.k c.args.layer l c.requires.valid is in
    record {
      state = state;
      is_own = mine;
      each = λ other other_is.
          place-is c l is ∙ ap place_in (loose_state-unique own c.args.scene.now c.args.setup.now c.args.k l state other mine other_is);
    }

pub returns-clause-ranges : goal.returns-clause-ranges
returns-clause-ranges c =
    let found = layer-at c.args.scene.now.layers c.args.layer c.requires.there in
    let ranges = state_by-in_slots found.0 (course_way c.args.scene.now c.args.setup.now c.args.k found.0) in
    subst IsPlaceInSlots (sym (place-is c found.0 found.1))
    (record { left = ranges.left; top = ranges.top; width = ranges.width; height = ranges.height })
