-- Words, those of a table, and whole numbers without sign, unit and point.
use Rattle.std.specs.Prelude.{ℕ, true, ◌≡◌, ◌⊎◌, ◌<◌, ◌≤◌, List, [], ◌∷◌, length}
use Rattle.std.specs.List.{list_all}
use Rattle.text_tokens.specs.Classes.{is_digit}
use Rattle.style_tokens.specs.declared.token.CssKind.TheVariants.{Ident}
use Rattle.css_words.specs.Keywords.{is_keyword}
use Rattle.css_words.specs.Words.{Word}
use Rattle.css_word_laws.specs.SpelledNumbers.{word, tens}

-- the words are one keyword, in any case
pub record IsWord (keyword : List ℕ) (words : List Word) : Type 0 where
  pub bytes : List ℕ
  pub alone : words ≡ word Ident bytes ∷ []
  pub is : is_keyword keyword bytes ≡ true

-- the bytes are, in any case, a word of the table that has this value
abbrev pub IsEntry : {A : Type 0} → List (List ℕ × A) → List ℕ → A → Type 0
IsEntry [] bytes value = ⊥
IsEntry (entry ∷ table) bytes value = ((is_keyword entry.0 bytes ≡ true) × (value ≡ entry.1)) ⊎ IsEntry table bytes value

-- the words are one identifier that is a word of the table
pub record SpellsKeyword {A : Type 0} (table : List (List ℕ × A)) (words : List Word) (value : A) : Type 0 where
  pub bytes : List ℕ
  pub alone : words ≡ word Ident bytes ∷ []
  pub entry : IsEntry table bytes value

-- the bytes are a whole number of nine digits at most
pub record IsWhole (bytes : List ℕ) (n : ℕ) : Type 0 where
  pub digits : list_all is_digit bytes ≡ true
  pub some : 0 < length bytes
  pub few : length bytes ≤ 9
  pub value : n ≡ tens bytes
