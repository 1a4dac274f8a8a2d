use Rattle.std.proofs.Common.{ap, ◌∙◌, Bool, List}
use Rattle.std.specs.Prelude.{count_by}
use Rattle.row_pool.specs.Rows.{Rows}
use Rattle.row_pool.proofs.FreeLemmas.{free-count}
use Rattle.row_pool.proofs.pool.Pool.free.Goals as goal

pub returns : goal.returns
returns c = free-count c.self.inside.rows c.count_out.result c.self.inside.out.items c.args.self.now.free c.self.invariant.within (ap (λ (p : Rows). p.free) c.self.view_is)
    (c.count_out.ensures ∙ ap (λ (xs : List Bool). count_by (λ is_out. is_out) xs) c.as_slice.ensures.value)
