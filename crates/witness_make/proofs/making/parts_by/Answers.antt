-- No part yet.
use Rattle.std.proofs.Common.{List, subst, sym}
use Rattle.page_model.specs.declared.witness.Part.{Part}
use Rattle.witness_make.specs.Made.{ArePartsBefore}
use Rattle.witness_make.proofs.PartLemmas.{parts-none}
use Rattle.witness_make.proofs.making.parts_by.Goals as goal

pub loop-number-init : goal.loop-number-init
loop-number-init c =
    subst (λ (ps : List Part). ArePartsBefore c.args.scene.now c.args.setup.now c.args.cuts.now c.args.bad.start c.args.bad.x c.args.bad.y 0 ps)
    (sym c.new-parts.ensures.items) (parts-none c.args.scene.now c.args.setup.now c.args.cuts.now c.args.bad.start c.args.bad.x c.args.bad.y)
