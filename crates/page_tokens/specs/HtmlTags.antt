-- The tags of a page with their content: HTML (Living Standard, "Tags" and "Attributes"), as a profile.
use Rattle.std.specs.Prelude.{◌≡◌, ℕ, ◌+◌, Bool, true, false, List, [], ◌∷◌, ◌++◌, length, IsTrue}
use Rattle.std.specs.List.{list_all}
use Rattle.page_tokens.specs.HtmlRuns.{IsRun, MaybeWhite, IsWhite, IsNamed, is_tag_byte, is_attribute_byte, is_quote, is_value_byte}

-- an attribute: its name, its value, and how many bytes of the text are left from the value's first byte on
pub record Attribute : Type 0 where
  pub name : List ℕ
  pub value : List ℕ
  pub left : ℕ

-- optional white space, `=`, optional white space
pub record IsEquals (bytes rest : List ℕ) : Type 0 where
  pub after : List ℕ
  pub before_sign : MaybeWhite bytes (61 ∷ after)
  pub after_sign : MaybeWhite after rest

-- a value between two quotes of one kind
pub record IsQuoted (bytes value : List ℕ) (left : ℕ) (rest : List ℕ) : Type 0 where
  pub quote : ℕ
  pub after : List ℕ
  pub is_first : bytes ≡ quote ∷ after
  pub quotes : IsTrue (is_quote quote)
  pub run : IsRun (is_value_byte quote) after value (quote ∷ rest)
  pub left_is : left ≡ length after

-- white space and an attribute
pub record IsAttribute (bytes : List ℕ) (attribute : Attribute) (rest : List ℕ) : Type 0 where
  pub at_name : List ℕ
  pub at_equals : List ℕ
  pub at_value : List ℕ
  pub space : IsWhite bytes at_name
  pub name : IsNamed is_attribute_byte at_name attribute.name at_equals
  pub equals : IsEquals at_equals at_value
  pub value : IsQuoted at_value attribute.value attribute.left rest

-- the end of an opening tag, with its `/` or without
abbrev pub closes : Bool → List ℕ → List ℕ
closes true rest = 47 ∷ 62 ∷ rest
closes false rest = 62 ∷ rest

-- what follows the name of an opening tag: attributes, optional white space, an optional `/`, and `>`
abbrev pub IsTail : List ℕ → List Attribute → Bool → List ℕ → Type 0
IsTail bytes [] slash rest = MaybeWhite bytes (closes slash rest)
IsTail bytes (attribute ∷ attributes) slash rest = (middle : List ℕ) × IsAttribute bytes attribute middle × IsTail middle attributes slash rest

-- an opening tag: `<`, its name, its attributes and its end
pub record IsOpening (bytes name : List ℕ) (attributes : List Attribute) (slash : Bool) (rest : List ℕ) : Type 0 where
  pub after : List ℕ
  pub at_tail : List ℕ
  pub is_first : bytes ≡ 60 ∷ after
  pub named : IsNamed is_tag_byte after name at_tail
  pub tail : IsTail at_tail attributes slash rest

-- a closing tag: `</`, its name, optional white space and `>`
pub record IsClosing (bytes name rest : List ℕ) : Type 0 where
  pub after : List ℕ
  pub at_end : List ℕ
  pub is_first : bytes ≡ 60 ∷ 47 ∷ after
  pub named : IsNamed is_tag_byte after name at_end
  pub white : MaybeWhite at_end (62 ∷ rest)
