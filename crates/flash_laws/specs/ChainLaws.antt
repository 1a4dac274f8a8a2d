-- Laws of chains of opposing changes, over anything that is seen and any two sorts of changes of it.
use Rattle.std.specs.Prelude.{ℕ}
use Rattle.page_model.specs.Flash.{Between, HasChain}
use Rattle.flash_laws.specs.FlagLaws.{CarriesOver}

-- what is seen has a chain where something else has one whose changes, in the frames of the window, are changes of it
abbrev pub ChainsCarryOver : {C D : Type 0} → (C → C → Type 0) → (C → C → Type 0) → (D → D → Type 0) → (D → D → Type 0) → Type 0
ChainsCarryOver {C} {D} Up Down Up' Down' =
    (seen : ℕ → C) (seen' : ℕ → D) (start window : ℕ) → CarriesOver start window (Between Up seen) (Between Up' seen')
    → CarriesOver start window (Between Down seen) (Between Down' seen')
    → HasChain Up Down seen start window → HasChain Up' Down' seen' start window
