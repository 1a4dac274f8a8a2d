use Rattle.std.proofs.Common.{◌≡◌, ◌++◌, drop, map, filter}
use Rattle.page_model.specs.Cascade.{names_more, names_property}
use Rattle.cascade.proofs.tables.kept_more.Given as goal

-- the answers so far and those of the sets that are left are all of them
abbrev pub invariant-asking : goal.invariant-asking
invariant-asking l = l.more.items ++ map names_more (filter names_property (drop l.set-index l.sets)) ≡ map names_more (filter names_property l.sets)
