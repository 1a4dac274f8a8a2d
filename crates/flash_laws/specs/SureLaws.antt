-- Laws of possible and sure changes of tints: a sure change is one of each two of their colours, and a change of two of their
-- colours is possible.
use Rattle.std.specs.Prelude.{◌≤◌}
use Rattle.page_model.specs.declared.colour.Rgb.{Rgb}
use Rattle.page_model.specs.declared.colour.Tint.{Tint}
use Rattle.page_model.specs.Change.{IsPossibleRise, IsSureRise, IsPossibleFall, IsSureFall, IsPossiblyIntoRed, IsPossiblyOutOfRed, IsSurelyIntoRed, IsSurelyOutOfRed, IsPossiblyIntoRedWidely, IsPossiblyOutOfRedWidely, IsSurelyIntoRedWidely, IsSurelyOutOfRedWidely}
use Rattle.page_model.specs.Light.{IsRise, IsFall}
use Rattle.page_model.specs.Red.{IsIntoRed, IsOutOfRed}

-- a colour lies in a tint, channel by channel
pub record IsOf (tint : Tint) (c : Rgb) : Type 0 where
  pub red_least : tint.lo.r ≤ c.r
  pub red_most : c.r ≤ tint.hi.r
  pub green_least : tint.lo.g ≤ c.g
  pub green_most : c.g ≤ tint.hi.g
  pub blue_least : tint.lo.b ≤ c.b
  pub blue_most : c.b ≤ tint.hi.b

-- a change of tints is one of each colour of the first to each of the second
abbrev pub IsOfAll : (Tint → Tint → Type 0) → (Rgb → Rgb → Type 0) → Type 0
IsOfAll Surely Changes = (a b : Tint) (c d : Rgb) → IsOf a c → IsOf b d → Surely a b → Changes c d

-- where some colour of the first tint changes to one of the second, the tints change
abbrev pub IsOfSome : (Tint → Tint → Type 0) → (Rgb → Rgb → Type 0) → Type 0
IsOfSome Possibly Changes = (a b : Tint) (c d : Rgb) → IsOf a c → IsOf b d → Changes c d → Possibly a b

pub record SureChangesAreChanges : Type 0 where
  pub rise : IsOfAll IsSureRise IsRise
  pub fall : IsOfAll IsSureFall IsFall
  pub into_red : IsOfAll IsSurelyIntoRed IsIntoRed
  pub out_of_red : IsOfAll IsSurelyOutOfRed IsOutOfRed
  pub into_red_widely : IsOfAll IsSurelyIntoRedWidely IsIntoRed
  pub out_of_red_widely : IsOfAll IsSurelyOutOfRedWidely IsOutOfRed

pub record ChangesArePossible : Type 0 where
  pub rise : IsOfSome IsPossibleRise IsRise
  pub fall : IsOfSome IsPossibleFall IsFall
  pub into_red : IsOfSome IsPossiblyIntoRed IsIntoRed
  pub out_of_red : IsOfSome IsPossiblyOutOfRed IsOutOfRed
  pub into_red_widely : IsOfSome IsPossiblyIntoRedWidely IsIntoRed
  pub out_of_red_widely : IsOfSome IsPossiblyOutOfRedWidely IsOutOfRed
