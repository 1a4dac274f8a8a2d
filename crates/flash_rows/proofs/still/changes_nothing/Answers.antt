-- A single colour makes no change with itself, and of another tint all changes are tried.
use Rattle.std.proofs.Common.{◌≡◌, Bool, false, true, inl, inr, refl, subst}
use Rattle.std.specs.Prelude.{◌↔◌, IsTrue}
use Rattle.std.proofs.lemmas.Bool.{cases_Bool}
use Rattle.page_model.specs.declared.colour.Tint.{Tint}
use Rattle.tint_changes.specs.declared.changes.Change.{Change}
use Rattle.tint_changes.specs.declared.changes.Change.TheVariants.{PossibleRise, PossibleFall, SureRise, SureFall, PossiblyIntoRed, PossiblyOutOfRed, SurelyIntoRed, SurelyOutOfRed}
use Rattle.tint_changes.specs.declared.made.Made.{Made}
use Rattle.tint_changes.specs.Counting.{Makes}
use Rattle.tint_changes.specs.Made.{IsNone, MadeByLight, MadeByRed}
use Rattle.tint_changes.proofs.SingleLemmas.{single-still}
use Rattle.flash_rows.proofs.still.changes_nothing.Goals as goal

never : (made : Bool) (change : Change) (tint : Tint) → IsTrue made ↔ Makes change tint tint → made ≡ false → Makes change tint tint → ⊥
never made change tint told none makes = let yes : made ≡ true = told.1 makes in cc (yes, none)

not : (made : Bool) (change : Change) (tint : Tint) → IsTrue made ↔ Makes change tint tint → (Makes change tint tint → ⊥) → made ≡ false
not made change tint told none = elim (cases_Bool made) [
  | inl does ↦ absurd (none (told.0 does))
  | inr fails ↦ fails
]

none-never : (tint : Tint) (light red : Made) → MadeByLight tint tint light → MadeByRed tint tint red → IsNone light → IsNone red
    → (change : Change) → Makes change tint tint → ⊥
none-never tint light red by_light by_red first second PossibleRise = never light.up PossibleRise tint by_light.up first.up
none-never tint light red by_light by_red first second PossibleFall = never light.down PossibleFall tint by_light.down first.down
none-never tint light red by_light by_red first second SureRise = never light.surely_up SureRise tint by_light.surely_up first.surely_up
none-never tint light red by_light by_red first second SureFall = never light.surely_down SureFall tint by_light.surely_down first.surely_down
none-never tint light red by_light by_red first second PossiblyIntoRed = never red.up PossiblyIntoRed tint by_red.up second.up
none-never tint light red by_light by_red first second PossiblyOutOfRed = never red.down PossiblyOutOfRed tint by_red.down second.down
none-never tint light red by_light by_red first second SurelyIntoRed = never red.surely_up SurelyIntoRed tint by_red.surely_up second.surely_up
none-never tint light red by_light by_red first second SurelyOutOfRed =
    never red.surely_down SurelyOutOfRed tint by_red.surely_down second.surely_down

light-none : (tint : Tint) (light : Made) → MadeByLight tint tint light → ((change : Change) → Makes change tint tint → ⊥) → IsNone light
light-none tint light made none = record {
  up = not light.up PossibleRise tint made.up (none PossibleRise);
  down = not light.down PossibleFall tint made.down (none PossibleFall);
  surely_up = not light.surely_up SureRise tint made.surely_up (none SureRise);
  surely_down = not light.surely_down SureFall tint made.surely_down (none SureFall);
}

red-none : (tint : Tint) (red : Made) → MadeByRed tint tint red → ((change : Change) → Makes change tint tint → ⊥) → IsNone red
red-none tint red made none = record {
  up = not red.up PossiblyIntoRed tint made.up (none PossiblyIntoRed);
  down = not red.down PossiblyOutOfRed tint made.down (none PossiblyOutOfRed);
  surely_up = not red.surely_up SurelyIntoRed tint made.surely_up (none SurelyIntoRed);
  surely_down = not red.surely_down SurelyOutOfRed tint made.surely_down (none SurelyOutOfRed);
}

pub returns-then-is_single : goal.returns-then-is_single
returns-then-is_single c = ((λ yes. single-still c.args.tint (c.is_single.ensures.0 c.if-is_single.true)), λ never. refl)

pub returns : goal.returns
returns c =
    let light = subst (λ (t : Tint). MadeByLight c.args.tint t c.made_by_light-light.result) c.next_tint-next.ensures.tint c.made_by_light-light.ensures in
    let red = c.made_by_red-red.ensures in (
      λ yes.
          let both = c.are_none.ensures.0 yes in
          none-never c.args.tint c.made_by_light-light.result c.made_by_red-red.result light red both.0 both.1,
      λ none.
          c.are_none.ensures.1
          (light-none c.args.tint c.made_by_light-light.result light none, red-none c.args.tint c.made_by_red-red.result red none),
    )
