use Rattle.std.proofs.Common.{◌≡◌, ◌*◌, ◌^◌, ◌≤◌, take}
use Rattle.std.specs.Prelude.{sum_by}
use Rattle.page_model.specs.declared.witness.Part.{Part}
use Rattle.witness_checks.proofs.area.area_of.Given as goal

abbrev pub invariant-loop-part : goal.invariant-loop-part
invariant-loop-part l = (l.area ≡ sum_by (λ (part : Part). part.width * part.height) (take l.part-index l.parts)) × (l.area ≤ 2 ^ 32 * l.part-index)
