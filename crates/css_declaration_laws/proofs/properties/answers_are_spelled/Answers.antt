use Rattle.css_declaration_laws.proofs.DeclarationLemmas.{answers_are}
use Rattle.css_declaration_laws.proofs.properties.answers_are_spelled.Goals as goal

pub returns : goal.returns
returns c = answers_are
