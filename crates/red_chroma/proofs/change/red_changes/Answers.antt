-- Where a tint isn't a single colour, a saturated corner is enough.
use Rattle.std.proofs.Common.{◌≡◌, Bool, false, true, inl, inr}
use Rattle.std.specs.Prelude.{◌↔◌, IsTrue}
use Rattle.page_model.specs.declared.colour.Tint.{Tint}
use Rattle.page_model.specs.Change.{AreFarBy, HasSaturated, IsPossiblyRed, IsSingle, greatest_gap}
use Rattle.red_chroma.proofs.change.red_changes.Goals as goal

loose : (from to red : Tint) (single told : Bool) → IsTrue single ↔ (IsSingle from × IsSingle to) → single ≡ false
    → IsTrue told ↔ HasSaturated red → IsTrue told ↔ IsPossiblyRed (AreFarBy greatest_gap) from to red
loose from to red single told is none has = (
  λ yes. inr ((λ one other. let both : single ≡ true = is.1 (one, other) in cc (both, none)), has.0 yes),
  λ possible. elim possible [
    | inl far ↦ let both : single ≡ true = is.1 (far.0.first_single, far.0.second_single) in absurd (cc (both, none))
    | inr other ↦ has.1 other.1
  ],
)

pub returns-clause-into_possible : goal.returns-clause-into_possible
returns-clause-into_possible c =
    loose c.args.from c.args.to c.args.to c.are_single.result c.has_saturated.result c.are_single.ensures c.if-are_single.false
    c.has_saturated.ensures

pub returns-clause-out_possible : goal.returns-clause-out_possible
returns-clause-out_possible c =
    loose c.args.from c.args.to c.args.from c.are_single.result c.has_saturated-2.result c.are_single.ensures c.if-are_single.false
    c.has_saturated-2.ensures
