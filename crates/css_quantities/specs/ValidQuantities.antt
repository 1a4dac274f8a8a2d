-- What holds of each number that is given.
use Rattle.std.specs.Prelude.{ℤ, pos, neg_ℤ}
use Rattle.page_model.specs.ValidScene.{IsBetween}

-- a time in milliseconds, negative or not
abbrev pub IsTime : ℤ → Type 0
IsTime v = IsBetween (neg_ℤ (pos 100000)) (pos 100000) v

abbrev pub IsLevel : ℤ → Type 0
IsLevel v = IsBetween (neg_ℤ (pos 1000000)) (pos 1000000) v
