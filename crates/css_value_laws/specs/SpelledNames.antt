-- Names of keyframe sets.
use Rattle.std.specs.Prelude.{ℕ, Bool, true, ◌≡◌, List, [], ◌∷◌, Option, Some, None, codes}
use Rattle.style_tokens.specs.declared.token.CssKind.TheVariants.{Ident}
use Rattle.css_words.specs.Keywords.{is_keyword}
use Rattle.css_words.specs.Words.{Word}
use Rattle.css_items.specs.ItemWords.{reserved_words}
use Rattle.css_word_laws.specs.SpelledNumbers.{word}
use Rattle.css_word_laws.specs.SpelledWords.{IsEntry, IsWord}

-- the words are an identifier that may name a keyframe set: neither `none` nor a CSS-wide keyword
pub record IsSetName (words : List Word) (bytes : List ℕ) : Type 0 where
  pub alone : words ≡ word Ident bytes ∷ []
  pub is_some : is_keyword (codes "none") bytes ≡ true → ⊥
  pub is_own : (value : Bool) → IsEntry reserved_words bytes value → ⊥

-- a name: `none`, or that of a keyframe set, which is the bytes as they are
abbrev pub SpellsName : List Word → Option (List ℕ) → Type 0
SpellsName words None = IsWord (codes "none") words
SpellsName words (Some bytes) = IsSetName words bytes
