-- There are as many rows as were opened.
use Rattle.std.proofs.Common.{◌∙◌, ap, length, sym}
use Rattle.std.proofs.lemmas.List.FromFn.{length-map-range_with_len}
use Rattle.row_pool.specs.Kept.{row_in}
use Rattle.row_pool.specs.Rows.{Rows}
use Rattle.row_pool.proofs.pool.Pool.rows.Goals as goal

pub returns : goal.returns
returns c =
    sym (length-map-range_with_len (λ number. row_in c.self.inside.width c.self.inside.words.items number) 0 c.self.inside.rows)
    ∙ ap (λ (pool : Rows). length pool.rows) c.self.view_is
