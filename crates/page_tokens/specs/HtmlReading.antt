-- How the pieces of a page are read: for each what the bytes at the front give, and what is left, or nothing where none stands there.
use Rattle.std.specs.Prelude.{ℕ, suc, zero, Bool, true, false, ◌==◌, ◌&&◌, List, [], ◌∷◌, ◌++◌, length, Option, Some, None, option_and_then, codes, if◌then◌else◌}
use Rattle.std.specs.Char.{to_ascii_lowercase}
use Rattle.std.specs.Option.{option_map}
use Rattle.text_tokens.specs.Classes.{is_white}
use Rattle.page_tokens.specs.HtmlRuns.{begins_with_letter, is_tag_byte, is_attribute_byte, is_quote, is_value_byte, is_raw_byte}
use Rattle.page_tokens.specs.HtmlTags.{Attribute}
use Rattle.page_tokens.specs.HtmlPieces.{Content, doctype, opening, closing, raw, Piece, between, token, begins_as_end, has_no_ampersand}
use Rattle.page_tokens.specs.declared.html_stand.Stand.{Stand}
use Rattle.page_tokens.specs.declared.html_stand.Stand.TheVariants.{Anything, TitleText, StyleText, ItsEnd}

infixl 10 ◌>>=◌
abbrev pub ◌>>=◌ : {A B : Type 0} → Option A → (A → Option B) → Option B
o >>= f = option_and_then f o

-- the bytes of a class at the front, and what is left
abbrev pub run_of : (ℕ → Bool) → List ℕ → List ℕ
run_of class [] = []
run_of class (b ∷ bs) = if class b then b ∷ run_of class bs else []

abbrev pub after_run : (ℕ → Bool) → List ℕ → List ℕ
after_run class [] = []
after_run class (b ∷ bs) = if class b then after_run class bs else b ∷ bs

-- what is left after this one byte
unfoldable pub byte_at : ℕ → List ℕ → Option (List ℕ)
byte_at byte [] = None
byte_at byte (b ∷ bs) = if b == byte then Some bs else None

-- what is left after a byte of white space or more
unfoldable pub white_at : List ℕ → Option (List ℕ)
white_at [] = None
white_at (b ∷ bs) = if is_white b then Some (after_run is_white bs) else None

-- a name, and what is left
unfoldable pub name_at : (ℕ → Bool) → List ℕ → Option (List ℕ × List ℕ)
name_at class bytes = if begins_with_letter (run_of class bytes) then Some (run_of class bytes, after_run class bytes) else None

-- what is left after a word in any case
unfoldable pub any_case_at : List ℕ → List ℕ → Option (List ℕ)
any_case_at [] bytes = Some bytes
any_case_at (w ∷ ws) [] = None
any_case_at (w ∷ ws) (b ∷ bs) = if to_ascii_lowercase b == w then any_case_at ws bs else None

-- what is left after white space and this byte
unfoldable pub spaced_byte_at : ℕ → List ℕ → Option (List ℕ)
spaced_byte_at byte bytes = byte_at byte (after_run is_white bytes)

-- what is left after `=` and the white space around it
unfoldable pub equals_at : List ℕ → Option (List ℕ)
equals_at bytes = do
  after ← spaced_byte_at 61 bytes
  Some (after_run is_white after)

-- a value, the number of bytes from its first one on, and what is left
unfoldable pub value_at : ℕ → List ℕ → Option (List ℕ × ℕ × List ℕ)
value_at quote bytes = do
  rest ← byte_at quote (after_run (is_value_byte quote) bytes)
  Some (run_of (is_value_byte quote) bytes, length bytes, rest)

unfoldable pub quoted_at : List ℕ → Option (List ℕ × ℕ × List ℕ)
quoted_at [] = None
quoted_at (b ∷ bs) = if is_quote b then value_at b bs else None

-- an attribute, and what is left
unfoldable pub attribute_at : List ℕ → Option (Attribute × List ℕ)
attribute_at bytes = do
  at_name ← white_at bytes
  name ← name_at is_attribute_byte at_name
  at_value ← equals_at name.1
  value ← quoted_at at_value
  Some (record { name = name.0; value = value.0; left = value.1 }, value.2)

-- whether a `/` stands in an opening tag's end, and what is left
unfoldable pub sign_at : List ℕ → Option (Bool × List ℕ)
sign_at [] = None
sign_at (b ∷ bs) = if b == 47 then option_map (λ rest. (true, rest)) (byte_at 62 bs) else (if b == 62 then Some (false, bs) else None)

unfoldable pub end_at : List ℕ → Option (Bool × List ℕ)
end_at bytes = sign_at (after_run is_white bytes)

-- the attributes of an opening tag and its end, of at most n attributes
abbrev pub put_first : Attribute → List Attribute × Bool × List ℕ → List Attribute × Bool × List ℕ
put_first attribute tail = (attribute ∷ tail.0, tail.1, tail.2)

abbrev pub tail_from : (List ℕ → Option (List Attribute × Bool × List ℕ)) → List ℕ → Option (Attribute × List ℕ) → Option (List Attribute × Bool × List ℕ)
tail_from more bytes None = option_map (λ closed. ([], closed.0, closed.1)) (end_at bytes)
tail_from more bytes (Some read) = option_map (put_first read.0) (more read.1)

abbrev pub tail_within : ℕ → List ℕ → Option (List Attribute × Bool × List ℕ)
tail_within zero bytes = None
tail_within (suc n) bytes = tail_from (tail_within n) bytes (attribute_at bytes)

-- the attributes of an opening tag and its end
unfoldable pub tail_at : List ℕ → Option (List Attribute × Bool × List ℕ)
tail_at bytes = tail_within (suc (length bytes)) bytes

-- what stands after `<`: an opening tag
unfoldable pub opening_at : List ℕ → Option (Content × List ℕ)
opening_at bytes = do
  name ← name_at is_tag_byte bytes
  tail ← tail_at name.1
  Some (opening name.0 tail.0 tail.1, tail.2)

-- what stands after `</`: a closing tag
unfoldable pub closing_at : List ℕ → Option (Content × List ℕ)
closing_at bytes = do
  name ← name_at is_tag_byte bytes
  rest ← spaced_byte_at 62 name.1
  Some (closing name.0, rest)

-- what stands after `<!`: a doctype
unfoldable pub doctype_at : List ℕ → Option (Content × List ℕ)
doctype_at bytes = do
  at_space ← any_case_at (codes "doctype") bytes
  at_html ← white_at at_space
  at_end ← any_case_at (codes "html") at_html
  rest ← spaced_byte_at 62 at_end
  Some (doctype, rest)

-- what is left after the first `--`
abbrev pub after_dashes : List ℕ → Option (List ℕ)
after_dashes [] = None
after_dashes (a ∷ []) = None
after_dashes (a ∷ b ∷ bs) = if a == 45 && b == 45 then Some bs else after_dashes (b ∷ bs)

-- what is left after a comment, from its text on
unfoldable pub comment_text_at : List ℕ → Option (List ℕ)
comment_text_at bytes = if begins_as_end bytes then None else after_dashes bytes >>= byte_at 62

-- what stands after `<!`: a comment
unfoldable pub comment_at : List ℕ → Option (List ℕ)
comment_at bytes = do
  after ← byte_at 45 bytes
  at_text ← byte_at 45 after
  comment_text_at at_text

-- a token of this content
abbrev pub as_token : Option (Content × List ℕ) → Option (Piece × List ℕ)
as_token o = option_map (λ read. (token read.0, read.1)) o

-- a piece that is no token
abbrev pub as_between : Option (List ℕ) → Option (Piece × List ℕ)
as_between o = option_map (λ rest. (between, rest)) o

-- what stands after `<!`
unfoldable pub declaration_at : List ℕ → Option (Piece × List ℕ)
declaration_at [] = None
declaration_at (b ∷ bs) = if b == 45 then as_between (comment_at (b ∷ bs)) else as_token (doctype_at (b ∷ bs))

-- what stands after `<`
unfoldable pub markup_at : List ℕ → Option (Piece × List ℕ)
markup_at [] = None
markup_at (b ∷ bs) =
    if b == 33 then declaration_at bs
    else (if b == 47 then as_token (closing_at bs)
    else as_token (opening_at (b ∷ bs)))

-- what stands where anything may
unfoldable pub open_piece_at : List ℕ → Option (Piece × List ℕ)
open_piece_at [] = None
open_piece_at (b ∷ bs) =
    if is_white b then Some (between, bs)
    else (if b == 60 then markup_at bs else None)

-- raw text
unfoldable pub raw_at : List ℕ → Option (Content × List ℕ)
raw_at bytes = do
  _ ← byte_at 60 (after_run is_raw_byte bytes)
  Some (raw (run_of is_raw_byte bytes), after_run is_raw_byte bytes)

-- raw text of a title
unfoldable pub title_at : List ℕ → Option (Content × List ℕ)
title_at bytes = if has_no_ampersand (run_of is_raw_byte bytes) then raw_at bytes else None

-- a closing tag
unfoldable pub end_tag_at : List ℕ → Option (Content × List ℕ)
end_tag_at bytes = do
  at_slash ← byte_at 60 bytes
  at_name ← byte_at 47 at_slash
  closing_at at_name

-- a piece that may stand here, and what is left
abbrev pub piece_at : Stand → List ℕ → Option (Piece × List ℕ)
piece_at Anything bytes = open_piece_at bytes
piece_at TitleText bytes = as_token (title_at bytes)
piece_at StyleText bytes = as_token (raw_at bytes)
piece_at ItsEnd bytes = as_token (end_tag_at bytes)
