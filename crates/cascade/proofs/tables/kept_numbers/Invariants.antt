use Rattle.std.proofs.Common.{◌≡◌, ◌≤◌, ◌++◌, drop}
use Rattle.cascade.specs.SetTables.{kept_from}
use Rattle.cascade.proofs.tables.kept_numbers.Given as goal

-- the numbers so far and those of the sets that are left are all of them, and no more sets were kept than seen
abbrev pub invariant-numbering : goal.invariant-numbering
invariant-numbering l =
    (l.numbers.items ++ kept_from l.kept (drop l.set-index l.sets) ≡ kept_from 0 l.sets) × (l.kept ≤ l.set-index)
