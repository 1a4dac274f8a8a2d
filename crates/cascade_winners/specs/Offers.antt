-- The best declarations so far, and what one more makes of them.
use Rattle.std.specs.Prelude.{List, [], map, Option, Some, None, ◌==◌, if◌then◌else◌}
use Rattle.page_model.specs.declared.element.Element.{Element}
use Rattle.page_model.specs.declared.rule.Compound.{Compound}
use Rattle.page_model.specs.declared.rule.Decl.{Decl}
use Rattle.page_model.specs.Cascade.{Candidate, Winners, by_selector, is_beaten_by, matches, number_of}

-- the winner of a property, and a candidate of it
abbrev pub better : Option Candidate → Candidate → Candidate
better None candidate = candidate
better (Some winner) candidate = if is_beaten_by winner.weight candidate.weight then candidate else winner

abbrev pub offered : Winners → Candidate → Winners
offered winners candidate property =
    if property == number_of candidate.longhand then Some (better (winners property) candidate) else winners property

-- the declarations of a rule by one of its selectors, if that matches
abbrev pub of_selector : Element → List Decl → Compound → List Candidate
of_selector element decls selector = if matches selector element then map (λ (decl : Decl). by_selector decl selector) decls else []
