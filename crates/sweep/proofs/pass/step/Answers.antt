-- One frame more was seen, and maybe a window ended with it.
use Rattle.std.proofs.Common.{◌≡◌, ◌∙◌, ◌-◌, ℕ, List, length, arith, rules, subst, sym}
use Rattle.flash_count.specs.declared.tracking.Flag.{Flag}
use Rattle.row_pool.specs.Rows.{Rows}
use Rattle.sweep.specs.declared.windows.Sort.TheVariants.{Possible, Sure}
use Rattle.sweep.specs.Swept.{IsSwept, groups_in}
use Rattle.sweep.specs.Told.{IsLookedAt, spread}
use Rattle.sweep.proofs.SweptLemmas.{stepped, swept-early, swept-more, written-back}
use Rattle.sweep.proofs.pass.step.Goals as goal

pub returns-then-frame-from-clause-swept : goal.returns-then-frame-from-clause-swept
returns-then-frame-from-clause-swept c =
    let all : length c.as_slice.result.now ≡ groups_in c.args.groups.now = search rules in
    swept-early c.args.scene.now c.args.setup.now c.args.cuts.now c.args.groups.now c.args.frame c.paint.new.room.pool c.push_frame.new.pool c.as_slice.result.now
    c.push_frame.new.flags c.args.found
    (stepped c.args.scene.now c.args.setup.now c.args.cuts.now c.args.groups.now c.args.frame c.rate-rate.result c.paint.new.room.pool c.push_frame.new.pool
    c.paint.new.room.tints.items c.as_slice.result.now c.push_frame.new.flags c.requires.valid c.requires.cells c.paint.ensures.painted.tints_are
    (sym c.as_slice.ensures.value) all c.rate-rate.ensures.value c.push_frame.ensures.pushed c.push_frame.ensures.only)
    (subst (λ (pool : Rows). IsSwept c.args.scene.now c.args.setup.now c.args.cuts.now c.args.groups.now c.args.frame pool c.args.found)
    (sym c.paint.ensures.pool) c.requires.swept)
    (omega (arith, c.if-frame-from.true, c.from.ensures, c.rate-rate.ensures.value))

pub returns-clause-swept : goal.returns-clause-swept
returns-clause-swept c =
    let all : length c.as_slice.result.now ≡ groups_in c.args.groups.now = search rules in
    let many : length c.push_frame.new.flags ≡ c.paint.new.room.flags.len = search rules in
    let flags : c.as_slice-2.result.now ≡ c.push_frame.new.flags =
    c.as_slice-2.ensures.value ∙ written-back c.paint.new.room.flags.len c.push_frame.new.flags _ many in
    let start : ℕ = c.args.frame - c.from-2.result in
    swept-more c.args.scene.now c.args.setup.now c.args.cuts.now c.args.groups.now c.args.frame start c.paint.new.room.pool c.push_frame.new.pool c.as_slice.result.now
    c.push_frame.new.flags c.args.found c.look.result
    (stepped c.args.scene.now c.args.setup.now c.args.cuts.now c.args.groups.now c.args.frame c.rate-rate.result c.paint.new.room.pool c.push_frame.new.pool
    c.paint.new.room.tints.items c.as_slice.result.now c.push_frame.new.flags c.requires.valid c.requires.cells c.paint.ensures.painted.tints_are
    (sym c.as_slice.ensures.value) all c.rate-rate.ensures.value c.push_frame.ensures.pushed c.push_frame.ensures.only)
    (subst (λ (pool : Rows). IsSwept c.args.scene.now c.args.setup.now c.args.cuts.now c.args.groups.now c.args.frame pool c.args.found)
    (sym c.paint.ensures.pool) c.requires.swept)
    (omega (arith, c.if-frame-from.false, c.from.ensures, c.from-2.ensures, c.rate-rate.ensures.value))
    (subst (λ (fs : List Flag). IsLookedAt Sure c.args.cuts.now (spread c.args.groups.now fs) start c.args.found.sure c.look.result.sure) flags c.look.ensures.sure)
    (subst (λ (fs : List Flag). IsLookedAt Possible c.args.cuts.now (spread c.args.groups.now fs) start c.args.found.possible c.look.result.possible) flags c.look.ensures.possible)
