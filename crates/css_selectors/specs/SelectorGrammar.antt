-- Compound selectors and their lists: Selectors Level 3, as a profile. Nothing stands between the tokens of a compound selector.
use Rattle.std.specs.Prelude.{ℕ, Bool, true, false, ◌==◌, ◌&&◌, ◌||◌, not, List, [], ◌∷◌, ◌++◌, drop, codes, Option, Some, None, Ok, Err, if◌then◌else◌}
use Rattle.std.specs.List.{list_all}
use Rattle.page_model.specs.declared.rule.Compound.{Compound}
use Rattle.text_tokens.specs.Classes.{is_name_start, is_name_byte}
use Rattle.style_tokens.specs.declared.token.CssKind.{CssKind}
use Rattle.style_tokens.specs.declared.token.CssKind.TheVariants.{Dot, Hash}
use Rattle.style_tokens.specs.declared.token.CssToken.{CssToken}
use Rattle.css_words.specs.Keywords.{is_keyword}
use Rattle.css_declarations.specs.declared.fault.SheetFault.TheVariants.{BadSheet}
use Rattle.css_declarations.specs.TokenKinds.{is_ident, token_text}
use Rattle.css_selectors.specs.Readings.{Read, Exactly, Many, Seen, Listed}

abbrev pub is_dot : CssKind → Bool
is_dot Dot = true
is_dot other = false

abbrev pub is_hash : CssKind → Bool
is_hash Hash = true
is_hash other = false

-- what a part of a selector asks for
pub data Sort : Type 0 where
  tag : Sort
  id : Sort
  class : Sort

-- a part of a compound selector, and the byte of the file behind it
pub record Part : Type 0 where
  pub sort : Sort
  pub name : List ℕ
  pub to : ℕ

-- bytes are an identifier: an optional `-`, a letter or `_`, then letters, digits, `_` and `-`
abbrev pub is_bare : List ℕ → Bool
is_bare [] = false
is_bare (byte ∷ rest) = is_name_start byte && list_all is_name_byte rest

abbrev pub is_identifier : List ℕ → Bool
is_identifier [] = false
is_identifier (byte ∷ rest) = if byte == 45 then is_bare rest else is_bare (byte ∷ rest)

-- the name of an id, which is an identifier
abbrev pub id_name : List ℕ → CssToken → List ℕ
id_name text token = drop 1 (token_text text token)

abbrev pub is_id : List ℕ → CssToken → Bool
is_id text token = is_hash token.kind && is_identifier (id_name text token)

-- a type; `html` is none that may stand there
abbrev pub is_tag : List ℕ → CssToken → Bool
is_tag text token = is_ident token.kind && not (is_keyword (codes "html") (token_text text token))

abbrev pub part : Sort → List ℕ → ℕ → Part
part sort name to = record { sort = sort; name = name; to = to }

-- behind a `.` directly follows the identifier of a class
unfoldable pub class_at : List ℕ → ℕ → CssToken → List CssToken → Read Part
class_at text end dot [] = Err (BadSheet end)
class_at text end dot (name ∷ rest) =
    if is_ident name.kind && (dot.place.to == name.place.from) then Ok (part class (token_text text name) name.place.to, rest)
    else Err (BadSheet name.place.from)

-- a part
unfoldable pub part_at : List ℕ → ℕ → List CssToken → Read Part
part_at text end [] = Err (BadSheet end)
part_at text end (token ∷ rest) =
    if is_dot token.kind then class_at text end token rest
    else (if is_id text token then Ok (part id (id_name text token) token.place.to, rest)
    else (if is_tag text token then Ok (part tag (token_text text token) token.place.to, rest) else Err (BadSheet token.place.from)))

-- where the last of some parts ends
abbrev pub last_end : List Part → Option ℕ
last_end [] = None
last_end (one ∷ []) = Some one.to
last_end (one ∷ (other ∷ rest)) = last_end (other ∷ rest)

-- the token at the front directly follows there, and begins an id or a class
abbrev pub goes_on : List ℕ → ℕ → List CssToken → Bool
goes_on text to [] = false
goes_on text to (token ∷ rest) = (to == token.place.from) && (is_dot token.kind || is_id text token)

-- a compound selector has a part, and as many as follow directly
abbrev pub ends_behind : List ℕ → Option ℕ → List CssToken → Bool
ends_behind text None tokens = false
ends_behind text (Some to) tokens = not (goes_on text to tokens)

abbrev pub ends_compound : List ℕ → List Part → List CssToken → Bool
ends_compound text parts tokens = ends_behind text (last_end parts) tokens

-- what the parts ask for; a type is the first of them, where there is one
abbrev pub with_part_of : Compound → List ℕ → Sort → Compound
with_part_of compound name tag = record compound { tag = Some name }
with_part_of compound name id = record compound { ids = compound.ids ++ (name ∷ []) }
with_part_of compound name class = record compound { classes = compound.classes ++ (name ∷ []) }

abbrev pub with_part : Compound → Part → Compound
with_part compound one = with_part_of compound one.name one.sort

abbrev pub compound_behind : Compound → List Part → Compound
compound_behind compound [] = compound
compound_behind compound (one ∷ parts) = compound_behind (with_part compound one) parts

abbrev pub no_part : Compound
no_part = record { tag = None; ids = []; classes = [] }

abbrev pub compound_of : List Part → Compound
compound_of parts = compound_behind no_part parts

abbrev pub Parts : List ℕ → ℕ → List Part → List CssToken → Read (List Part) → Type 0
Parts text end = Many (λ before. Exactly (part_at text end)) (ends_compound text)

abbrev pub Selector : List ℕ → ℕ → List CssToken → Read Compound → Type 0
Selector text end = Seen compound_of (Parts text end [])

abbrev pub Selectors : List ℕ → ℕ → List CssToken → Read (List Compound) → Type 0
Selectors text end = Listed (λ before. Selector text end)
