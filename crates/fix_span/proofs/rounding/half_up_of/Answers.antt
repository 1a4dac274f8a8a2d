-- The floor of the quotient of the dividend by the unit.
use Rattle.std.proofs.Common.{arith}
use Rattle.std.proofs.lemmas.Int.{to_z-of_z}
use Rattle.fix_span.proofs.NestedLemmas.{half_up-nested}
use Rattle.fix_span.proofs.rounding.half_up_of.Goals as goal

pub returns : goal.returns
returns c = grind (arith, to_z-of_z, half_up-nested c.args.x c.args.unit c.requires.some_unit c.requires.positive)
