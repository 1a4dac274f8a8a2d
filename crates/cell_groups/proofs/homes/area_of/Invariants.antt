-- The box left the area in none of the frames so far.
use Rattle.std.specs.Prelude.{◌≡◌, Some, slice_get}
use Rattle.page_model.specs.declared.scene.Layer.{Layer}
use Rattle.cell_groups.specs.declared.homes.Home.TheVariants.{Within}
use Rattle.cell_groups.specs.Homes.{IsHomeOf}
use Rattle.cell_groups.proofs.homes.area_of.Given as goal

abbrev pub invariant-loop-k : goal.invariant-loop-k
invariant-loop-k l = (layer : Layer) → slice_get l.scene.layers l.number ≡ Some layer → IsHomeOf l.scene l.setup l.k layer (Within l.area)
