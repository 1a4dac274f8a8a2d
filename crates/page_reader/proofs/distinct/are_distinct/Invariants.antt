use Rattle.std.proofs.Common.{◌≡◌, ◌≤◌, true, length, map, drop}
use Rattle.page_tokens.specs.HtmlShown.{shown_attribute}
use Rattle.page_reader.specs.PageSymbols.{are_distinct}
use Rattle.page_reader.proofs.NameLemmas.{Seen}
use Rattle.page_reader.proofs.distinct.are_distinct.Given as goal

-- the attributes behind were seen, and no two have one name
abbrev pub invariant-adding : goal.invariant-adding
invariant-adding l = record {
  in_range : l.left ≤ length l.attributes;
  seen : Seen l.names (map shown_attribute (drop l.left l.attributes));
  distinct : are_distinct (map shown_attribute (drop l.left l.attributes)) ≡ true;
}

abbrev pub decreases-adding : goal.decreases-adding
decreases-adding l = l.left
