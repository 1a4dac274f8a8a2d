-- A wrong definition of sure changes.
use Rattle.page_model.specs.Change.{IsPossibleRise}
use Rattle.page_model.specs.Light.{IsRise}
use Rattle.flash_laws.specs.SureLaws.{IsOfAll}

-- a rise from the lower end to the upper one taken for sure: from black or white to black or white it may be a fall
abbrev pub PossibleIsNotSure : Type 0
PossibleIsNotSure = IsOfAll IsPossibleRise IsRise → ⊥
