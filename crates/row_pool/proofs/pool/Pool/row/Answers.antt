use Rattle.std.proofs.Common.{rules, ap, ◌<◌, ◌≤◌, ◌+◌, ◌*◌, length, refl, arith}
use Rattle.row_pool.specs.Rows.{Rows}
use Rattle.row_pool.proofs.FreeLemmas.{known-by}
use Rattle.row_pool.proofs.RowLemmas.{row-inside, row-there}
use Rattle.row_pool.proofs.pool.Pool.row.Goals as goal

pub slice_bounds-result-end : goal.slice_bounds-result-end
slice_bounds-result-end c =
    let known : c.args.id.number < length c.self.inside.out.items = known-by c.self.inside.rows c.self.inside.out.items c.args.self.now.free c.args.id.number (ap (λ (p : Rows). p.free) c.self.view_is) c.requires.out in
    let there : c.args.id.number * c.self.inside.width + c.self.inside.width ≤ length c.self.inside.words.items = row-inside c.self.inside.width (length c.self.inside.out.items) (length c.self.inside.words.items) c.args.id.number c.self.invariant.long known in
    grind (arith, rules)

pub returns : goal.returns
returns c =
    let known : c.args.id.number < length c.self.inside.out.items = known-by c.self.inside.rows c.self.inside.out.items c.args.self.now.free c.args.id.number (ap (λ (p : Rows). p.free) c.self.view_is) c.requires.out in
    let there : c.args.id.number * c.self.inside.width + c.self.inside.width ≤ length c.self.inside.words.items = row-inside c.self.inside.width (length c.self.inside.out.items) (length c.self.inside.words.items) c.args.id.number c.self.invariant.long known in
    let within : c.args.id.number < c.self.inside.rows = omega (arith, known, c.self.invariant.within) in
    rw (← c.self.view_is, c.deref.ensures.value) (row-there c.self.inside.rows c.self.inside.width c.self.inside.words.items c.args.id.number (c.args.id.number * c.self.inside.width + c.self.inside.width) within refl there)
