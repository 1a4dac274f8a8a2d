use Rattle.std.proofs.Common.{is_ok, ap}
use Rattle.std.proofs.ResultArms.{chosen}
use Rattle.page_tokens.specs.HtmlShown.{shown_attribute}
use Rattle.page_tokens.proofs.HtmlTagLemmas.{found_shorter, tail_kept}
use Rattle.page_tokens.proofs.html_tags.attributes_and_end.Goals as goal

-- the attribute that was read is gone
pub reading-smaller : goal.reading-smaller
reading-smaller c = found_shorter c.reading.rest.now (shown_attribute c.in-Some.read) c.in-Some.after.now c.in-Some.ensures

-- and joins the others
pub reading-preserved : goal.reading-preserved
reading-preserved c =
    let pushed = chosen _ _ _ _ c.push.ensures.items (ap is_ok c.in_ok-push.was) in
    tail_kept shown_attribute c.reading.attributes.items c.push.new.self.items c.in-Some.read c.reading.rest.now c.in-Some.after.now _ pushed c.in-Some.ensures c.reading.invariant
