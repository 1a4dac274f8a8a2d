-- What may stand at the front of some bytes, and what is left behind it: runs of bytes of a class, white space, names.
use Rattle.std.specs.Prelude.{◌≡◌, ℕ, Bool, true, false, not, ◌==◌, ◌&&◌, ◌||◌, List, [], ◌∷◌, ◌++◌, IsTrue, map}
use Rattle.std.specs.Char.{to_ascii_lowercase}
use Rattle.std.specs.List.{list_all}
use Rattle.text_tokens.specs.Classes.{is_letter, is_digit, is_white}

-- the class of bytes of a tag's name after its first letter
abbrev pub is_tag_byte : ℕ → Bool
is_tag_byte byte = is_letter byte || is_digit byte

-- the class of bytes of an attribute's name after its first letter
abbrev pub is_attribute_byte : ℕ → Bool
is_attribute_byte byte = is_letter byte || is_digit byte || byte == 45

-- a single or a double quote
abbrev pub is_quote : ℕ → Bool
is_quote byte = byte == 34 || byte == 39

-- the class of bytes of a value in such quotes: neither `<` nor `&` nor the quote itself
abbrev pub is_value_byte : ℕ → ℕ → Bool
is_value_byte quote byte = not (byte == 60 || byte == 38 || byte == quote)

-- the class of bytes of raw text: all but `<`
abbrev pub is_raw_byte : ℕ → Bool
is_raw_byte byte = not (byte == 60)

-- the bytes are a run of this class, and the rest
pub record IsRun (class : ℕ → Bool) (bytes run rest : List ℕ) : Type 0 where
  pub spelled : bytes ≡ run ++ rest
  pub of_class : IsTrue (list_all class run)

-- white space of any length stands in front of the rest
pub record MaybeWhite (bytes rest : List ℕ) : Type 0 where
  pub white : List ℕ
  pub run : IsRun is_white bytes white rest

-- white space of one byte or more stands in front of the rest
pub record IsWhite (bytes rest : List ℕ) : Type 0 where
  pub first : ℕ
  pub more : List ℕ
  pub is_first : bytes ≡ first ∷ more
  pub first_white : IsTrue (is_white first)
  pub more_white : MaybeWhite more rest

-- a letter stands first
abbrev pub begins_with_letter : List ℕ → Bool
begins_with_letter [] = false
begins_with_letter (b ∷ bs) = is_letter b

-- a name stands in front of the rest: bytes of the class, the first of them a letter
pub record IsNamed (class : ℕ → Bool) (bytes name rest : List ℕ) : Type 0 where
  pub run : IsRun class bytes name rest
  pub begins : IsTrue (begins_with_letter name)

-- a word in any case stands in front of the rest; the word is given in lower case
pub record IsAnyCase (word bytes rest : List ℕ) : Type 0 where
  pub letters : List ℕ
  pub spelled : bytes ≡ letters ++ rest
  pub is_word : map to_ascii_lowercase letters ≡ word
