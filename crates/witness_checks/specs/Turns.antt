-- How far stated tints change surely and in turn.
use Rattle.std.specs.Prelude.{ℕ, ◌≡◌, ◌+◌, ◌<◌, ◌≤◌, Bool, true, false, not, List, Some, length, slice_get, take}
use Rattle.page_model.specs.declared.colour.Tint.{Tint}
use Rattle.page_model.specs.declared.witness.Kind.{Kind}
use Rattle.page_model.specs.declared.witness.Kind.TheVariants.{General, Red}
use Rattle.page_model.specs.declared.witness.Part.{Part}
use Rattle.page_model.specs.Change.{IsSureRise, IsSureFall, IsSurelyIntoRed, IsSurelyOutOfRed}
use Rattle.page_model.specs.Flash.{Alternates}
use Rattle.page_model.specs.WitnessConditions.{AlternatesSurely, HasNineTurns}
use Rattle.witness_checks.specs.Faults.{IsFirstUnchanged}

-- a sure change of a kind, forwards or back: a rise or a fall, into red or out of it
abbrev pub IsSureChange : Kind → Bool → Tint → Tint → Type 0
IsSureChange General true = IsSureRise
IsSureChange General false = IsSureFall
IsSureChange Red true = IsSurelyIntoRed
IsSureChange Red false = IsSurelyOutOfRed

-- the tints make both changes of a kind surely and in turn, the one forwards first or the one back
abbrev pub TakeTurns : Kind → Bool → List Tint → Type 0
TakeTurns kind first tints = Alternates (IsSureChange kind first) (IsSureChange kind (not first)) tints

-- so many tints do, and no more
pub record TakeTurnsTo (kind : Kind) (first : Bool) (tints : List Tint) (count : ℕ) : Type 0 where
  pub some : 1 ≤ count
  pub few : count ≤ length tints
  pub held : TakeTurns kind first (take count tints)
  pub broken : count < length tints → TakeTurns kind first (take (count + 1) tints) → ⊥

-- a part tells nine turns, and its tints change surely and in turn
pub record Changes (part : Part) : Type 0 where
  pub turns : HasNineTurns part
  pub alternates : AlternatesSurely part.kind part.tints

-- it does, and they cease to change at a turn
pub record Stops (part : Part) (turn : ℕ) : Type 0 where
  pub turns : HasNineTurns part
  pub stops : IsFirstUnchanged part.kind part.tints turn

-- a part is the first that stops
pub record IsFirstStop (parts : List Part) (number turn : ℕ) : Type 0 where
  pub part : Part
  pub there : slice_get parts number ≡ Some part
  pub here : Stops part turn
  pub before : (k : ℕ) (other : Part) → k < number → slice_get parts k ≡ Some other → Changes other
