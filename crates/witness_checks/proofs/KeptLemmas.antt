-- The states that were written into the front of what is kept.
use Rattle.std.proofs.Common.{◌≡◌, ◌∙◌, ℕ, ◌++◌, List, Some, length, take, ap, subst, sym}
use Rattle.std.proofs.Math.Seq.{take-append_seam}
use Rattle.std.proofs.lemmas.Option.{same_Some, slice_get_within}
use Rattle.page_model.specs.declared.scene.Scene.{Scene}
use Rattle.page_model.specs.declared.setup.Setup.{Setup}
use Rattle.frame_state.specs.declared.types.LayerState.{LayerState}
use Rattle.frame_state.specs.States.{AreInSlots, AreOwn, states_as}
use Rattle.witness_checks.specs.Kept.{AreStatesIn}

pub seen-kept : (scene : Scene) (setup : Setup) (k number frame : ℕ) (written rest : List LayerState) → k ≡ number → Some number ≡ Some frame
    → length written ≡ length scene.layers → AreOwn scene setup k (states_as written) → AreInSlots scene (states_as written)
    → AreStatesIn scene setup frame (take (length scene.layers) (written ++ rest))
seen-kept scene setup k number frame written rest k_is same long own slots =
    let whole : take (length scene.layers) (written ++ rest) ≡ written =
    ap (λ n. take n (written ++ rest)) (sym long) ∙ take-append_seam written rest in
    subst (AreStatesIn scene setup frame) (sym whole) (record {
      own_states = subst (λ n. AreOwn scene setup n (states_as written)) (k_is ∙ same_Some number frame same) own;
      ready = λ layer_number layer there coloured. slots layer_number (slice_get_within scene.layers layer_number layer there);
    })
