-- Each list of declarations has a winning one, so nothing that is said of all winning declarations is empty talk; and winning ones
-- have one weight, so where no two declarations stand at one place the winning one is unique.
use Rattle.std.specs.Prelude.{Option, Some, ◌≡◌, List}
use Rattle.page_model.specs.declared.element.Element.{Element}
use Rattle.page_model.specs.declared.rule.Decl.{Decl}
use Rattle.page_model.specs.declared.rule.Rule.{Rule}
use Rattle.page_model.specs.Cascade.{Candidate, Winners, IsWinning, AreWinners}

pub record WinnersExist : Type 0 where
  pub winner : (candidates : List Candidate) → (winner : Option Candidate) × IsWinning candidates winner
  pub winners : (rules : List Rule) (element : Element) (inline : List Decl) → (winners : Winners) × AreWinners rules element inline winners
  pub one_weight : (candidates : List Candidate) (one other : Candidate) → IsWinning candidates (Some one)
      → IsWinning candidates (Some other) → one.weight ≡ other.weight
