-- The properties of the keyframes passed.
use Rattle.std.proofs.Common.{◌≡◌, take}
use Rattle.std.specs.List.{list_any}
use Rattle.page_model.specs.declared.property.Prop.{Prop}
use Rattle.layer_ways.specs.Named.{is_named, is_set_by}
use Rattle.layer_ways.proofs.named.named_in.Given as goal

abbrev pub invariant-loop-frame : goal.invariant-loop-frame
invariant-loop-frame l = (other : Prop) → is_named l.named other ≡ list_any (is_set_by other) (take l.frame-index l.frames)
