-- The states and tints in a frame, as they are left in lists that were written over whole.
use Rattle.std.proofs.Common.{◌≡◌, ℕ, ◌+◌, ◌-◌, List, length, arith, subst, sym}
use Rattle.page_model.specs.declared.colour.Tint.{Tint}
use Rattle.page_model.specs.declared.scene.Scene.{Scene}
use Rattle.page_model.specs.declared.setup.Setup.{Setup}
use Rattle.cell_groups.specs.Groups.{Grouping}
use Rattle.cell_tints.specs.Tints.{AreStatesIn, AreTintsIn}
use Rattle.frame_state.specs.declared.types.LayerState.{LayerState}
use Rattle.region_split.specs.Cutting.{Edges}
use Rattle.sweep.specs.Swept.{ArePainted, ArePaintedBefore}

-- what was written stands in the lists
pub painted-there : (scene : Scene) (setup : Setup) (edges : Edges) (groups : Grouping) (frame : ℕ) (firsts : List ℕ)
    (written states : List LayerState) (told tints : List Tint) → firsts ≡ groups.firsts → states ≡ written
    → tints ≡ told
    → AreStatesIn scene setup frame written → AreTintsIn scene setup edges frame firsts (length firsts) told
    → ArePainted scene setup edges groups frame states tints
painted-there scene setup edges groups frame firsts written states told tints first same alike are tinted = record {
  states_are = subst (AreStatesIn scene setup frame) (sym same) are;
  tints_are = subst (AreTintsIn scene setup edges frame groups.firsts (length groups.firsts)) (sym alike)
      (subst (λ list. AreTintsIn scene setup edges frame list (length list) told) first tinted);
}

-- in the next frame they are those of the frame before
pub painted-after : (scene : Scene) (setup : Setup) (edges : Edges) (groups : Grouping) (frame : ℕ)
    (states : List LayerState) (tints : List Tint) → ArePainted scene setup edges groups frame states tints
    → ArePaintedBefore scene setup edges groups (frame + 1) states tints
painted-after scene setup edges groups frame states tints are later =
    let same : frame ≡ frame + 1 - 1 = omega arith in
    subst (λ n. ArePainted scene setup edges groups n states tints) same are
