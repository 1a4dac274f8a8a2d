-- The next layer's state differs, and its number is written, or it is as it was.
use Rattle.std.proofs.Common.{◌∙◌, ◌<◌, length, take, arith, rules, ap, length-set}
use Rattle.std.proofs.lemmas.List.{take_more_set}
use Rattle.paint_blend.proofs.KeptLemmas.{changed-more, changed-same, differ-there, same-there}
use Rattle.paint_blend.proofs.kept.changed_in.Goals as goal
use Rattle.paint_blend.proofs.kept.changed_in.Goals.{then-not-is_same, else-not-is_same}

pub loop-i-preserved : goal.loop-i-preserved
loop-i-preserved c = elim c.if-not-is_same.branch [
  | then-not-is_same w ↦
      let inside = c.loop-i.invariant.count in
      let long = c.loop-i.invariant.long in
      let there : c.loop-i.count < length c.loop-i.changed = omega (arith, inside, long) in
      record {
        count = omega (arith, inside, w.count-is);
        long = ap length w.changed-is ∙ length-set c.loop-i.changed c.loop-i.count c.loop-i.i ∙ long;
        are = rw (w.count-is, w.changed-is, take_more_set c.loop-i.changed c.loop-i.count c.loop-i.i there)
            (changed-more c.args.before.now c.args.now.now (take c.loop-i.count c.loop-i.changed) c.loop-i.i c.loop-i.invariant.are
            c.loop-i-test.true
            (differ-there c.args.before.now c.args.now.now c.loop-i.i _ _ c.requires.same c.loop-i-test.true (λ same. let so = c.is_same.ensures.1 same in let no = w.if-not-is_same.true in absurd (cc))));
      }
  | else-not-is_same w ↦
      let inside = c.loop-i.invariant.count in
      record {
        count = omega (arith, inside, w.count-is);
        long = ap length w.changed-is ∙ c.loop-i.invariant.long;
        are = rw (w.count-is, w.changed-is)
            (changed-same c.args.before.now c.args.now.now (take c.loop-i.count c.loop-i.changed) c.loop-i.i c.loop-i.invariant.are
            (same-there c.args.before.now c.args.now.now c.loop-i.i _ _ c.requires.same c.loop-i-test.true (c.is_same.ensures.0 (search rules))));
      }
]
