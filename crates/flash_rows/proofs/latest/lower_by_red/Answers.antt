-- Where neither tint has a saturated corner no change is made.
use Rattle.std.proofs.Common.{◌≡◌, ◌+◌, ◌*◌, true, inl, inr, subst}
use Rattle.page_model.specs.declared.colour.Tint.{Tint}
use Rattle.tint_changes.specs.Made.{MadeByRed}
use Rattle.flash_rows.proofs.RedLemmas.{none-made, unmade, unmade-kept}
use Rattle.flash_rows.proofs.latest.lower_by_red.Goals as goal

pub returns-else-may_be_red-clause-lowered : goal.returns-else-may_be_red-clause-lowered
returns-else-may_be_red-clause-lowered c = (
  unmade,
  subst (λ (t : Tint). MadeByRed t c.args.next.now.tint unmade) c.tint_of.ensures
      (none-made c.tint_of.result c.args.next.now.tint
      (λ has. let told : c.may_be_red.result ≡ true = c.may_be_red.ensures.1 (inl has) in cc (told, c.if-may_be_red.false))
      (λ has. let told : c.may_be_red.result ≡ true = c.may_be_red.ensures.1 (inr has) in cc (told, c.if-may_be_red.false))),
  unmade-kept c.args.row.now (9 * c.args.place + 5) c.args.age c.args.best.now,
)
