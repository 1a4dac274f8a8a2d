use Rattle.std.proofs.Common.{rules, ap, refl, ◌∙◌, [], get_or, ◌<◌, ◌≤◌, ◌+◌, ◌*◌, length, arith}
use Rattle.row_pool.specs.Rows.{Rows}
use Rattle.row_pool.proofs.FreeLemmas.{known-by}
use Rattle.row_pool.proofs.RowLemmas.{row-inside, row-there}
use Rattle.row_pool.proofs.LendLemmas.{lent-whole}
use Rattle.row_pool.proofs.pool.Pool.row_mut.Goals as goal

pub slice_mut-requires-clause-in_bounds : goal.slice_mut-requires-clause-in_bounds
slice_mut-requires-clause-in_bounds c =
    let known : c.args.id.number < length c.self.inside.out.items = known-by c.self.inside.rows c.self.inside.out.items c.args.self.now.free c.args.id.number (ap (λ (p : Rows). p.free) c.self.view_is) c.requires.out in
    let there : c.args.id.number * c.self.inside.width + c.self.inside.width ≤ length c.self.inside.words.items = row-inside c.self.inside.width (length c.self.inside.out.items) (length c.self.inside.words.items) c.args.id.number c.self.invariant.long known in
    grind (arith, rules)

pub returns : goal.returns
returns c =
    let known : c.args.id.number < length c.self.inside.out.items = known-by c.self.inside.rows c.self.inside.out.items c.args.self.now.free c.args.id.number (ap (λ (p : Rows). p.free) c.self.view_is) c.requires.out in
    let there : c.args.id.number * c.self.inside.width + c.self.inside.width ≤ length c.self.inside.words.items = row-inside c.self.inside.width (length c.self.inside.out.items) (length c.self.inside.words.items) c.args.id.number c.self.invariant.long known in
    let within : c.args.id.number < c.self.inside.rows = omega (arith, known, c.self.invariant.within) in (
      (refl, lent-whole c.self.inside.rows c.self.inside.width c.self.inside.words.len c.self.inside.words.items c.self.inside.out.items c.args.id.number c.args.self.now c.self.inside.words.ok.0 c.self.view_is c.self.invariant.long known c.self.invariant.within),
      record {
        writes_back = tt;
        value = c.slice_mut.ensures.value ∙ row-there c.self.inside.rows c.self.inside.width c.self.inside.words.items c.args.id.number (c.args.id.number * c.self.inside.width + c.self.inside.width) within refl there
            ∙ ap (λ (p : Rows). get_or p.rows c.args.id.number []) c.self.view_is;
      },
    )
