-- One more layer's state, and all layers in the end.
use Rattle.std.proofs.Common.{◌≡◌, ◌<◌, Some, slice_get, length, arith}
use Rattle.std.proofs.lemmas.Option.{slice_get_within}
use Rattle.page_model.specs.declared.scene.Layer.{Layer}
use Rattle.page_model.specs.Enclosure.{IsLooseStateAt, own}
use Rattle.page_model.specs.LayerAt.{IsStateAt, State}
use Rattle.frame_state.specs.States.{IsInSlots, known}
use Rattle.frame_state.proofs.ListLemmas.{states_more}
use Rattle.frame_state.proofs.layers.states_at.Goals as goal

pub loop-i-preserved : goal.loop-i-preserved
loop-i-preserved c =
    let inside : c.loop-i.i < length c.loop-i.out = omega arith in record {
      exact = λ none number layer exact within is state_is.
          states_more
          (λ n state. (l : Layer) (s : State) → slice_get c.args.scene.now.layers n ≡ Some l → IsStateAt c.args.scene.now c.args.setup.now c.args.k l s → state ≡ known s)
          c.loop-i.out c.loop-i.i c.layer_at.result inside (λ n below l s l_is. c.loop-i.invariant.exact none n l s below l_is)
          (λ l s. c.layer_at.ensures.exact none l s) number within layer exact is state_is;
      own = λ number layer within is.
          states_more
          (λ n state. (l : Layer) → slice_get c.args.scene.now.layers n ≡ Some l → IsLooseStateAt own c.args.scene.now c.args.setup.now c.args.k l state)
          c.loop-i.out c.loop-i.i c.layer_at.result inside (λ n below l l_is. c.loop-i.invariant.own n l below l_is)
          c.layer_at.ensures.own number within layer is;
      ranges = states_more (λ n state. IsInSlots state) c.loop-i.out c.loop-i.i c.layer_at.result inside c.loop-i.invariant.ranges c.layer_at.ensures.ranges;
    }

pub returns-clause-exact : goal.returns-clause-exact
returns-clause-exact c none number layer state is state_is =
    let within = slice_get_within c.args.scene.now.layers number layer is in
    c.loop-i.invariant.exact none number layer state (omega arith) is state_is

pub returns-clause-own : goal.returns-clause-own
returns-clause-own c number layer is =
    let within = slice_get_within c.args.scene.now.layers number layer is in
    c.loop-i.invariant.own number layer (omega arith) is
