-- Chains in a list of tints: nine places whose eight changes are opposing ones in turn, as four flashes make them (WCAG 2.2: more
-- than three are too many). They are changes of luminance, or else changes into and out of saturated red, and never both in one
-- chain. They may be between any two of the tints, neighbours or not.
use Rattle.std.specs.Prelude.{ℕ, ◌≡◌, ◌⊎◌, ◌-◌, Some, List, length, slice_get}
use Rattle.page_model.specs.declared.colour.Tint.{Tint}
use Rattle.page_model.specs.declared.witness.Kind.{Kind}
use Rattle.page_model.specs.declared.witness.Kind.TheVariants.{General, Red}
use Rattle.page_model.specs.Change.{IsPossibleRise, IsPossibleFall, IsSureRise, IsSureFall, IsPossiblyIntoRed, IsPossiblyOutOfRed, IsSurelyIntoRed, IsSurelyOutOfRed}
use Rattle.page_model.specs.Flash.{IsChain}

-- the items at two places of a list make a change
pub record IsChangeAt {C : Type 0} (Changes : C → C → Type 0) (items : List C) (j k : ℕ) : Type 0 where
  pub earlier : C
  pub later : C
  pub is_earlier : slice_get items j ≡ Some earlier
  pub is_later : slice_get items k ≡ Some later
  pub changes : Changes earlier later

-- these places of a list are a chain, by two opposing changes of which either may be first
abbrev pub IsChainOf : {C : Type 0} → (C → C → Type 0) → (C → C → Type 0) → List C → List ℕ → Type 0
IsChainOf Up Down items places = IsChain (IsChangeAt Up items) (IsChangeAt Down items) 0 (length items - 1) places

-- some places of a list are a chain
abbrev pub HasChainOf : {C : Type 0} → (C → C → Type 0) → (C → C → Type 0) → List C → Type 0
HasChainOf Up Down items = (places : List ℕ) × IsChainOf Up Down items places

-- some places of these tints are a chain of possible changes, of luminance or of red
abbrev pub HasPossibleChain : List Tint → Type 0
HasPossibleChain tints = HasChainOf IsPossibleRise IsPossibleFall tints ⊎ HasChainOf IsPossiblyIntoRed IsPossiblyOutOfRed tints

-- these places are a chain of sure changes of a kind
abbrev pub IsSureChainOf : Kind → List Tint → List ℕ → Type 0
IsSureChainOf General tints places = IsChainOf IsSureRise IsSureFall tints places
IsSureChainOf Red tints places = IsChainOf IsSurelyIntoRed IsSurelyOutOfRed tints places

-- some places are
abbrev pub HasSureChainOf : Kind → List Tint → Type 0
HasSureChainOf kind tints = (places : List ℕ) × IsSureChainOf kind tints places

-- some places are, of one kind or the other
abbrev pub HasSureChain : List Tint → Type 0
HasSureChain tints = HasSureChainOf General tints ⊎ HasSureChainOf Red tints
