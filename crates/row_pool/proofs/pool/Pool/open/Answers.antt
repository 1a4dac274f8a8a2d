use Rattle.std.proofs.Common.{true, refl}
use Rattle.row_pool.proofs.pool.Pool.open.Goals as goal
use Rattle.row_pool.proofs.RowLemmas.{all_one, opened-rows}

pub returns : goal.returns
returns c = rw (c.in_ok-words.ensures.items, c.in_ok-out.ensures.items, opened-rows c.args.rows c.args.width, all_one true 0 c.args.rows) refl
