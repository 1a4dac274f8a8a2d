-- The states that were written are kept.
use Rattle.std.proofs.Common.{◌≡◌, arith, length}
use Rattle.witness_checks.proofs.KeptLemmas.{seen-kept}
use Rattle.witness_checks.proofs.kept.KeptStates.see.Goals as goal

pub returns-clause-kept : goal.returns-clause-kept
returns-clause-kept c frame same =
    let long : length c.states_at.new.out ≡ length c.args.scene.now.layers = omega arith in
    seen-kept c.args.scene.now c.args.setup.now c.from.result c.args.frame frame c.states_at.new.out _ c.from.ensures same long
    c.states_at.ensures.own c.states_at.ensures.ranges
