use Rattle.std.proofs.Common.{rules, ap, ◌<◌, true, length, arith}
use Rattle.row_pool.specs.Rows.{Rows}
use Rattle.row_pool.proofs.FreeLemmas.{freed-set, known-by}
use Rattle.row_pool.proofs.pool.Pool.give.Goals as goal

pub index_mut-requires : goal.index_mut-requires
index_mut-requires c =
    let known : c.args.id.number < length c.self.inside.out.items = known-by c.self.inside.rows c.self.inside.out.items c.args.self.now.free c.args.id.number (ap (λ (p : Rows). p.free) c.self.view_is) c.requires.out in
    grind (arith, rules)

pub returns-then-id-self : goal.returns-then-id-self
returns-then-id-self c =
    let known : c.args.id.number < length c.self.inside.out.items = known-by c.self.inside.rows c.self.inside.out.items c.args.self.now.free c.args.id.number (ap (λ (p : Rows). p.free) c.self.view_is) c.requires.out in
    rw (← c.self.view_is, freed-set c.self.inside.rows c.self.inside.out.items c.args.id.number true c.self.invariant.within known) (search rules)

pub returns-else-id-self : goal.returns-else-id-self
returns-else-id-self c =
    let known : c.args.id.number < length c.self.inside.out.items = known-by c.self.inside.rows c.self.inside.out.items c.args.self.now.free c.args.id.number (ap (λ (p : Rows). p.free) c.self.view_is) c.requires.out in
    rw (← c.self.view_is, freed-set c.self.inside.rows c.self.inside.out.items c.args.id.number true c.self.invariant.within known) (search rules)
