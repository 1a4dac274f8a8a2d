-- What holds of a winning declaration.
use Rattle.std.specs.Prelude.{ℕ, ◌≡◌}
use Rattle.css_values.specs.ValidValues.{IsLonghand}
use Rattle.page_model.specs.Cascade.{Candidate, number_of}

-- it is of its property, and its value is in its limits
pub record IsWinningValue (property : ℕ) (winner : Candidate) : Type 0 where
  pub number : number_of winner.longhand ≡ property
  pub value : IsLonghand winner.longhand
