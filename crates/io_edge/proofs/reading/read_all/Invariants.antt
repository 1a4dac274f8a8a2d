use Rattle.std.proofs.Common.{◌≡◌, ◌-◌, ◌≤◌, vec_len}
use Rattle.io_edge.specs.Files.{SameNames}
use Rattle.io_edge.proofs.Taken.{HasTaken}
use Rattle.io_edge.proofs.reading.read_all.Given as goal

abbrev pub invariant-pieces : goal.invariant-pieces
invariant-pieces g l = record {
  within : vec_len l.bytes ≤ l.enough;
  taken : HasTaken (g.S.Source.files l.fn.source) l.name (g.S.Source.rest l.source) l.bytes.items;
  later : g.S.Source.faults l.fn.source ≤ g.S.Source.faults l.source;
  files : g.S.Source.files l.source ≡ g.S.Source.files l.fn.source;
  names : SameNames (g.S.Source.may_open l.fn.source) (g.S.Source.may_open l.source);
}

abbrev pub decreases-pieces : goal.decreases-pieces
decreases-pieces g l = l.enough - vec_len l.bytes
