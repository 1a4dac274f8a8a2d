use Rattle.css_declaration_laws.proofs.DeclarationLemmas.{declaration_judged}
use Rattle.css_declaration_laws.proofs.properties.every_declaration_is_judged.Goals as goal

pub returns : goal.returns
returns c = declaration_judged
