use Rattle.std.proofs.Common.{◌≡◌, take}
use Rattle.std.specs.Prelude.{count_by}
use Rattle.row_pool.proofs.numbers.count_out.Given as goal

abbrev pub invariant-loop-is_out : goal.invariant-loop-is_out
invariant-loop-is_out l = l.count ≡ count_by (λ is_out. is_out) (take l.is_out-index l.out)
