-- The pieces of a page: tokens with their content, and the white space and comments between them.
use Rattle.std.specs.Prelude.{◌≡◌, ℕ, Bool, true, false, not, ◌==◌, ◌&&◌, ◌||◌, ◌⊎◌, List, [], ◌∷◌, ◌++◌, map, codes, IsTrue, if◌then◌else◌}
use Rattle.std.specs.List.{list_all}
use Rattle.std.specs.Str.{str_eq_ignore_ascii_case}
use Rattle.text_tokens.specs.Classes.{is_white}
use Rattle.page_tokens.specs.HtmlRuns.{IsRun, MaybeWhite, IsWhite, IsAnyCase, is_raw_byte}
use Rattle.page_tokens.specs.HtmlTags.{Attribute, IsOpening, IsClosing}
use Rattle.page_tokens.specs.declared.html_stand.Stand.{Stand}
use Rattle.page_tokens.specs.declared.html_stand.Stand.TheVariants.{Anything, TitleText, StyleText, ItsEnd}

-- what a token says
pub data Content : Type 0 where
  doctype : Content
  opening : List ℕ → List Attribute → Bool → Content
  closing : List ℕ → Content
  raw : List ℕ → Content

-- a piece of a page: white space or a comment, or a token
pub data Piece : Type 0 where
  between : Piece
  token : Content → Piece

-- `<!DOCTYPE`, white space, `html`, optional white space, `>`, its letters in any case
pub record IsDoctype (bytes rest : List ℕ) : Type 0 where
  pub after : List ℕ
  pub at_space : List ℕ
  pub at_html : List ℕ
  pub at_end : List ℕ
  pub is_first : bytes ≡ 60 ∷ 33 ∷ after
  pub doctype_word : IsAnyCase (codes "doctype") after at_space
  pub space : IsWhite at_space at_html
  pub html_word : IsAnyCase (codes "html") at_html at_end
  pub white : MaybeWhite at_end (62 ∷ rest)

-- two `-` never stand side by side, and none stands last
abbrev pub has_no_dashes : List ℕ → Bool
has_no_dashes [] = true
has_no_dashes (a ∷ []) = not (a == 45)
has_no_dashes (a ∷ b ∷ more) = not (a == 45 && b == 45) && has_no_dashes (b ∷ more)

-- `>` or `->` stands first
abbrev pub begins_as_end : List ℕ → Bool
begins_as_end [] = false
begins_as_end (a ∷ []) = a == 62
begins_as_end (a ∷ b ∷ more) = a == 62 || a == 45 && b == 62

-- a comment: `<!--`, a text without `--` that doesn't begin with `>` or `->` and doesn't end with `-`, and `-->`
pub record IsComment (bytes rest : List ℕ) : Type 0 where
  pub text : List ℕ
  pub spelled : bytes ≡ 60 ∷ 33 ∷ 45 ∷ 45 ∷ (text ++ 45 ∷ 45 ∷ 62 ∷ rest)
  pub no_dashes : IsTrue (has_no_dashes text)
  pub begins_well : begins_as_end text ≡ false

-- a byte of white space
pub record IsWhiteByte (bytes rest : List ℕ) : Type 0 where
  pub byte : ℕ
  pub spelled : bytes ≡ byte ∷ rest
  pub white : IsTrue (is_white byte)

-- raw text: all bytes up to the next `<`, which is there
pub record IsRaw (bytes text rest : List ℕ) : Type 0 where
  pub after : List ℕ
  pub run : IsRun is_raw_byte bytes text rest
  pub ends : rest ≡ 60 ∷ after

-- text without `&`
abbrev pub has_no_ampersand : List ℕ → Bool
has_no_ampersand text = list_all (λ byte. not (byte == 38)) text

-- raw text of a title, which holds no `&`
pub record IsTitleText (bytes text rest : List ℕ) : Type 0 where
  pub raw : IsRaw bytes text rest
  pub no_ampersand : IsTrue (has_no_ampersand text)

-- this piece stands in front of the rest, where this may stand: raw text stands right behind an opening `title` or `style`,
-- and right behind raw text a closing tag, so that no comment hides there what a browser reads as text
abbrev pub IsPiece : Stand → List ℕ → Piece → List ℕ → Type 0
IsPiece Anything bytes between rest = IsWhiteByte bytes rest ⊎ IsComment bytes rest
IsPiece Anything bytes (token doctype) rest = IsDoctype bytes rest
IsPiece Anything bytes (token (opening name attributes slash)) rest = IsOpening bytes name attributes slash rest
IsPiece Anything bytes (token (closing name)) rest = IsClosing bytes name rest
IsPiece Anything bytes (token (raw text)) rest = ⊥
IsPiece TitleText bytes between rest = ⊥
IsPiece TitleText bytes (token doctype) rest = ⊥
IsPiece TitleText bytes (token (opening name attributes slash)) rest = ⊥
IsPiece TitleText bytes (token (closing name)) rest = ⊥
IsPiece TitleText bytes (token (raw text)) rest = IsTitleText bytes text rest
IsPiece StyleText bytes between rest = ⊥
IsPiece StyleText bytes (token doctype) rest = ⊥
IsPiece StyleText bytes (token (opening name attributes slash)) rest = ⊥
IsPiece StyleText bytes (token (closing name)) rest = ⊥
IsPiece StyleText bytes (token (raw text)) rest = IsRaw bytes text rest
IsPiece ItsEnd bytes between rest = ⊥
IsPiece ItsEnd bytes (token doctype) rest = ⊥
IsPiece ItsEnd bytes (token (opening name attributes slash)) rest = ⊥
IsPiece ItsEnd bytes (token (closing name)) rest = IsClosing bytes name rest
IsPiece ItsEnd bytes (token (raw text)) rest = ⊥

-- what may stand behind an opening tag of this name: the text of a `title` or a `style`, in any case, is raw
abbrev pub after_opening : List ℕ → Stand
after_opening name =
    if str_eq_ignore_ascii_case name (codes "title") then TitleText
    else (if str_eq_ignore_ascii_case name (codes "style") then StyleText
    else Anything)

-- what may stand behind a token
abbrev pub after_token : Content → Stand
after_token doctype = Anything
after_token (opening name attributes slash) = after_opening name
after_token (closing name) = Anything
after_token (raw text) = ItsEnd

-- what may stand behind a piece
abbrev pub after_piece : Stand → Piece → Stand
after_piece stand between = stand
after_piece stand (token content) = after_token content
