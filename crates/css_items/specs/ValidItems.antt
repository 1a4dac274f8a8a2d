-- What holds of each list that is given.
use Rattle.std.specs.Prelude.{◌<◌, List, length, All}

-- a list has an item, and each is good
pub record AreItems {A : Type 0} (P : A → Type 0) (items : List A) : Type 0 where
  pub some : 0 < length items
  pub each : All P items

abbrev pub IsAny : {A : Type 0} → A → Type 0
IsAny value = Unit {0}
