use Rattle.std.proofs.Common.{◌≡◌, ◌++◌, map, drop, filter}
use Rattle.page_reader.specs.PageElements.{is_some_text, runs_in}
use Rattle.page_reader.proofs.elements.runs_in.Given as goal

-- the runs so far and those of what is left are all of them
abbrev pub invariant-naming : goal.invariant-naming
invariant-naming l = l.runs ++ filter is_some_text (map (λ piece. piece.now) (drop l.piece-index l.piece-items)) ≡ runs_in l.fn.value
