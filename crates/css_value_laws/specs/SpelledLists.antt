-- Lists of items with commas between.
use Rattle.std.specs.Prelude.{ℕ, List, [], ◌∷◌, ◌++◌, Option, Some, None}
use Rattle.style_tokens.specs.declared.token.CssKind.TheVariants.{Comma}
use Rattle.css_words.specs.Words.{Word}
use Rattle.css_word_laws.specs.SpelledNumbers.{word}

-- the words are items with commas between, each of which spells its value
pub data IsList {A : Type 0} (Spells : List Word → A → Type 0) : List Word → List A → Type 0 where
  last : (item : List Word) (v : A) → Spells item v → IsList Spells item (v ∷ [])
  more : (item : List Word) (comma : List ℕ) (rest : List Word) (v : A) (others : List A) → Spells item v → IsList Spells rest others
      → IsList Spells (item ++ (word Comma comma ∷ rest)) (v ∷ others)

-- an item with its value, or with none where it is past its limit
abbrev pub IsMarked : {A : Type 0} → (List Word → A → Type 0) → (List Word → Type 0) → List Word → Option A → Type 0
IsMarked Spells Past item (Some v) = Spells item v
IsMarked Spells Past item None = Past item

-- one at least is past its limit
abbrev pub HasPast : {A : Type 0} → List (Option A) → Type 0
HasPast [] = ⊥
HasPast (None ∷ rest) = Unit {0}
HasPast (Some v ∷ rest) = HasPast rest

-- a list with an item past its limit, and none that is neither spelled nor past it
pub record IsPastList {A : Type 0} (Spells : List Word → A → Type 0) (Past : List Word → Type 0) (words : List Word) : Type 0 where
  pub marks : List (Option A)
  pub items : IsList (IsMarked Spells Past) words marks
  pub over : HasPast marks
