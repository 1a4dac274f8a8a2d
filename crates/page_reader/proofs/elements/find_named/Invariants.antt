use Rattle.std.proofs.Common.{◌≡◌, map, drop}
use Rattle.std.specs.Prelude.{find}
use Rattle.page_tokens.specs.HtmlShown.{shown_attribute}
use Rattle.page_reader.specs.PageSymbols.{is_named}
use Rattle.page_reader.proofs.elements.find_named.Given as goal

-- the first of what is left is the first of all
abbrev pub invariant-seeking : goal.invariant-seeking
invariant-seeking l = find (is_named l.name) (map shown_attribute (drop l.attribute-index l.attributes)) ≡ find (is_named l.name) (map shown_attribute l.attributes)
