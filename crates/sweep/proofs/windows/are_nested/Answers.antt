-- One flag more.
use Rattle.std.proofs.Common.{arith, refl}
use Rattle.std.proofs.lemmas.List.{take_all}
use Rattle.std.proofs.lemmas.List.Elements.{All-more}
use Rattle.sweep.specs.Few.{IsNested}
use Rattle.sweep.proofs.windows.are_nested.Goals as goal

pub loop-flag-preserved : goal.loop-flag-preserved
loop-flag-preserved c =
    All-more IsNested c.args.flags.now c.loop-flag.flag-index _ c.loop-flag-test.true c.loop-flag.invariant
    (c.is_nested.ensures.0 (cc))

pub returns : goal.returns
returns c = (
  λ yes.
      let all = take_all c.loop-flag.flag-index c.args.flags.now (omega (arith, c.loop-flag-test.false)) in
      rw all at c.loop-flag.invariant,
  λ all. refl,
)
