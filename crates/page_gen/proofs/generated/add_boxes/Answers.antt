-- One box more, and all of them.
use Rattle.std.proofs.Common.{◌∙◌, refl}
use Rattle.page_gen.proofs.BoxLemmas.{box-more, boxes-all, boxes-none, next-number}
use Rattle.page_gen.proofs.generated.add_boxes.Goals as goal

pub loop-number-init : goal.loop-number-init
loop-number-init c = (boxes-none c.args.first c.args.text.now.items, refl)

pub loop-number-preserved : goal.loop-number-preserved
loop-number-preserved c =
    let next = next-number c.args.first c.loop-number.number c.loop-number.z c.following-z.result c.loop-number.invariant.1 c.following-z.ensures in (
      box-more c.args.first c.loop-number.number c.following-z.result c.args.text.now.items c.loop-number.text.items c.as_bytes.result.now
          c.extend_from_slice.new.self.items next c.loop-number.invariant.0 (c.as_bytes.ensures.value ∙ c.in_ok-added.ensures) c.in_ok-extend_from_slice.ensures.items,
      next,
    )

pub returns : goal.returns
returns c =
    boxes-all c.args.first c.loop-number.number c.args.text.now.items c.loop-number.text.items c.loop-number-test.false
    c.loop-number.auto.number-end c.loop-number.invariant.0
