-- What it means that a reading gives what is spelled.
use Rattle.std.specs.Prelude.{◌≡◌, ◌↔◌, List, Result, Ok, Err}
use Rattle.css_words.specs.declared.fault.ValueFault.{ValueFault}
use Rattle.css_words.specs.declared.fault.ValueFault.TheVariants.{BadValue, OverLimit}
use Rattle.css_words.specs.Words.{Word}

-- a reading gives a value exactly where the words spell it, is past a limit exactly where they spell a value past it, and
-- gives neither exactly where they spell none; so they spell one value at most, and not one past a limit beside it
pub record Agrees {A : Type 0} (reading : List Word → Result A ValueFault) (Spells : List Word → A → Type 0) (Past : List Word → Type 0) : Type 0 where
  pub given : (words : List Word) (v : A) → (reading words ≡ Ok v) ↔ Spells words v
  pub over : (words : List Word) → (reading words ≡ Err OverLimit) ↔ Past words
  pub bad : (words : List Word) → (reading words ≡ Err BadValue) ↔ (((v : A) → Spells words v → ⊥) × (Past words → ⊥))
  pub one : (words : List Word) (v w : A) → Spells words v → Spells words w → w ≡ v
  pub apart : (words : List Word) (v : A) → Spells words v → Past words → ⊥

-- no value of a kind is past a limit
abbrev pub NonePast : List Word → Type 0
NonePast words = ⊥
