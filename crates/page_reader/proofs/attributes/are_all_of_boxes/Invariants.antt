use Rattle.std.proofs.Common.{◌≡◌, map, drop}
use Rattle.std.specs.List.{list_all}
use Rattle.page_tokens.specs.HtmlShown.{shown_attribute}
use Rattle.page_reader.specs.PageSymbols.{is_box_attribute}
use Rattle.page_reader.proofs.attributes.are_all_of_boxes.Given as goal

-- what is left decides
abbrev pub invariant-testing : goal.invariant-testing
invariant-testing l = list_all is_box_attribute (map shown_attribute (drop l.attribute-index l.attributes)) ≡ list_all is_box_attribute (map shown_attribute l.attributes)
