-- One home more.
use Rattle.std.proofs.Common.{arith, refl}
use Rattle.std.proofs.lemmas.List.{take_all}
use Rattle.std.proofs.lemmas.List.Elements.{All-more}
use Rattle.cell_groups.specs.declared.homes.Home.{Home}
use Rattle.cell_groups.specs.Homes.{TellsAlike}
use Rattle.cell_groups.proofs.alike.are_alike.Goals as goal

pub loop-home-preserved : goal.loop-home-preserved
loop-home-preserved c =
    let Tells : Home → Type 0 = λ home. TellsAlike home c.args.one.now.x c.args.one.now.y c.args.other.now.x c.args.other.now.y in
    All-more Tells c.args.homes.now c.loop-home.home-index _ c.loop-home-test.true c.loop-home.invariant (c.is_alike.ensures.0 (cc))

pub returns : goal.returns
returns c = (
  λ yes. rw (take_all c.loop-home.home-index c.args.homes.now (omega (arith, c.loop-home-test.false))) at c.loop-home.invariant,
  λ all. refl,
)
