use Rattle.std.proofs.Common.{not, ap, ◌∙◌}
use Rattle.page_reader.proofs.NameLemmas.{holds_has, put_is_added}
use Rattle.page_reader.proofs.distinct.add.Goals as goal

-- it is new where the set didn't hold it
pub returns-clause-new : goal.returns-clause-new
returns-clause-new c =
    rw (← c.names.view_is, ← c.in_ok-lower.ensures.ok) (c.in_ok-new.ensures.added ∙ ap not (holds_has c.in_ok-lower.lower c.names.inside.names.keys))

-- and the set holds it then
pub returns-clause-names : goal.returns-clause-names
returns-clause-names c =
    rw (← c.names.view_is, ← c.in_ok-lower.ensures.ok, c.in_ok-new.ensures.keys) (put_is_added c.in_ok-lower.lower c.names.inside.names.keys)
