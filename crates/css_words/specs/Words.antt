-- The tokens of a value as words: their kinds and their bytes.
use Rattle.std.specs.Prelude.{ℕ, Bool, true, false, ◌&&◌, List, [], ◌∷◌, map, length, Option, Some, None, Result, Ok, Err, nat_le, slice_range, option_and_then, if◌then◌else◌}
use Rattle.style_tokens.specs.declared.token.CssKind.{CssKind}
use Rattle.style_tokens.specs.declared.token.CssKind.TheVariants.{Ident, Function, Hash, Number, Comma, RightParen}
use Rattle.style_tokens.specs.declared.token.CssToken.{CssToken}
use Rattle.css_words.specs.declared.fault.ValueFault.{ValueFault}
use Rattle.css_words.specs.declared.fault.ValueFault.TheVariants.{BadValue}
use Rattle.css_words.specs.Keywords.{is_keyword}

-- a token with its bytes in place of where they lie
pub record Word : Type 0 where
  pub kind : CssKind
  pub bytes : List ℕ

-- the bytes of a file from one place to another; none, where it has no such places
unfoldable pub bytes_between : List ℕ → ℕ → ℕ → List ℕ
bytes_between text from to = if nat_le from to && nat_le to (length text) then slice_range text from to else []

abbrev pub word_of : List ℕ → CssToken → Word
word_of text token = record { kind = token.kind; bytes = bytes_between text token.place.from token.place.to }

abbrev pub words : List ℕ → List CssToken → List Word
words text tokens = map (word_of text) tokens

-- the bytes of a word of one kind
abbrev pub when_ident : CssKind → List ℕ → Option (List ℕ)
when_ident Ident bytes = Some bytes
when_ident other bytes = None

abbrev pub when_hash : CssKind → List ℕ → Option (List ℕ)
when_hash Hash bytes = Some bytes
when_hash other bytes = None

abbrev pub when_number : CssKind → List ℕ → Option (List ℕ)
when_number Number bytes = Some bytes
when_number other bytes = None

abbrev pub when_function : CssKind → List ℕ → Option (List ℕ)
when_function Function bytes = Some bytes
when_function other bytes = None

abbrev pub is_comma : CssKind → Bool
is_comma Comma = true
is_comma other = false

abbrev pub is_close : CssKind → Bool
is_close RightParen = true
is_close other = false

-- a word of a kind at the front: its bytes, and the words behind it
unfoldable pub front_of : (CssKind → List ℕ → Option (List ℕ)) → List Word → Option (List ℕ × List Word)
front_of when [] = None
front_of when (word ∷ rest) = option_and_then (λ bytes. Some (bytes, rest)) (when word.kind word.bytes)

-- the words behind one of a kind
unfoldable pub behind : (CssKind → Bool) → List Word → Option (List Word)
behind is [] = None
behind is (word ∷ rest) = if is word.kind then Some rest else None

-- the one thing of a list that has one
abbrev pub only_one : {A : Type 0} → List A → Option A
only_one [] = None
only_one (x ∷ []) = Some x
only_one (x ∷ (other ∷ rest)) = None

-- the bytes of a lone word of a kind
unfoldable pub lone : (CssKind → List ℕ → Option (List ℕ)) → List Word → Option (List ℕ)
lone when words = option_and_then (λ word. when word.kind word.bytes) (only_one words)

-- a lone keyword
unfoldable pub is_lone : List ℕ → List Word → Bool
is_lone keyword words = elim (lone when_ident words) [ None ↦ false | Some bytes ↦ is_keyword keyword bytes ]

-- the value of what is there; where nothing is, no value is spelled
abbrev pub or_bad : {A B : Type 0} → Option A → (A → Result B ValueFault) → Result B ValueFault
or_bad None value = Err BadValue
or_bad (Some x) value = value x

abbrev pub mapped : {A B : Type 0} → (A → B) → Result A ValueFault → Result B ValueFault
mapped f (Ok x) = Ok (f x)
mapped f (Err fault) = Err fault

-- the first of two that there is
abbrev pub or_else : {A : Type 0} → Option A → Option A → Option A
or_else (Some x) other = Some x
or_else None other = other

-- a function of this name at the front, with its `(`, and the words behind it
unfoldable pub function_at : List ℕ → List Word → Option (List Word)
function_at name words = option_and_then (λ f. if is_keyword name f.0 then Some f.1 else None) (front_of when_function words)

-- nothing is left
abbrev pub ended : {A : Type 0} → A → List Word → Option A
ended value [] = Some value
ended value (word ∷ rest) = None
