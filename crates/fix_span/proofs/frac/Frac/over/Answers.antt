-- By the law of quotients.
use Rattle.fix_span.specs.Quotient.{IsNumber-quotient}
use Rattle.fix_span.proofs.frac.Frac.over.Goals as goal

pub returns-clause-exact : goal.returns-clause-exact
returns-clause-exact c p q f g =
    IsNumber-quotient c.args.self c.args.other c.divided.result p q c.requires.positive c.divided.ensures f g
