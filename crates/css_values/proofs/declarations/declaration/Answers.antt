use Rattle.std.proofs.Common.{All}
use Rattle.css_values.specs.ValidValues.{IsLonghand}
use Rattle.css_words.specs.Words.{words}
use Rattle.css_values.proofs.ValidLonghands.{on_given, declaration_is}
use Rattle.css_values.proofs.declarations.declaration.Goals as goal

pub returns-clause-valid : goal.returns-clause-valid
returns-clause-valid c =
    on_given (All IsLonghand) _ _ c.any_declaration.ensures (declaration_is c.args.property (words c.args.text.now c.args.tokens.now))
