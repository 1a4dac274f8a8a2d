use Rattle.std.proofs.Common.{◌≡◌, filter}
use Rattle.page_model.specs.Cascade.{names_property}
use Rattle.cascade.proofs.tables.kept_sets.Given as goal

-- of the sets that were taken those that name a property are kept
abbrev pub invariant-keeping : goal.invariant-keeping
invariant-keeping l = l.kept ≡ filter names_property l.yielded
