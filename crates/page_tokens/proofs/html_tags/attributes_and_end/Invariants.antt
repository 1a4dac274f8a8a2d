use Rattle.std.proofs.Common.{◌≡◌, map, length}
use Rattle.std.specs.Option.{option_map}
use Rattle.page_tokens.specs.HtmlReading.{tail_at}
use Rattle.page_tokens.specs.HtmlShown.{shown_attribute}
use Rattle.page_tokens.proofs.HtmlTagLemmas.{put_before}
use Rattle.page_tokens.proofs.html_tags.attributes_and_end.Given as goal

-- the attributes so far before what is left are all of them
abbrev pub invariant-reading : goal.invariant-reading
invariant-reading l = option_map (put_before (map shown_attribute l.attributes.items)) (tail_at l.rest) ≡ tail_at l.fn.bytes

abbrev pub decreases-reading : goal.decreases-reading
decreases-reading l = length l.rest
