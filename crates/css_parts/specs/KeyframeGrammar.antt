-- Keyframe sets: CSS Animations Level 1, "Keyframes", as a profile.
use Rattle.std.specs.Prelude.{ℕ, ℤ, pos, Bool, true, false, ◌==◌, ◌&&◌, not, List, [], ◌∷◌, ◌++◌, filter, codes, Option, Some, None, Result, Ok, Err, is_some, nat_le, if◌then◌else◌}
use Rattle.std.specs.List.{list_any}
use Rattle.std.specs.Ordering.{match_ordering, nat_cmp}
use Rattle.page_model.specs.declared.easing.Easing.{Easing}
use Rattle.page_model.specs.declared.keyframe.Keyframe.{Keyframe}
use Rattle.page_model.specs.declared.keyframe.KeyframeSet.{KeyframeSet}
use Rattle.page_model.specs.declared.property.Prop.TheVariants as prop
use Rattle.page_model.specs.declared.property.Setting.{Setting}
use Rattle.page_model.specs.declared.property.Value.TheVariants as value
use Rattle.page_model.specs.declared.rule.Decl.{Decl}
use Rattle.page_model.specs.declared.rule.Longhand.{Longhand}
use Rattle.page_model.specs.declared.rule.Longhand.TheVariants.{Left, Top, Width, Height, Colour, Opacity, Visibility, Easings}
use Rattle.page_model.specs.Keyframes.{is_same}
use Rattle.style_tokens.specs.declared.token.CssKind.{CssKind}
use Rattle.style_tokens.specs.declared.token.CssKind.TheVariants.{AtWord, Number}
use Rattle.style_tokens.specs.declared.token.CssToken.{CssToken}
use Rattle.css_words.specs.declared.fault.ValueFault.{ValueFault}
use Rattle.css_words.specs.Keywords.{is_keyword, lookup}
use Rattle.css_items.specs.ItemWords.{reserved_words}
use Rattle.css_quantities.specs.Quantities.{percentage_of}
use Rattle.css_words.specs.Words.{words}
use Rattle.css_declarations.specs.declared.context.Context.TheVariants.{Block}
use Rattle.css_declarations.specs.declared.fault.SheetFault.TheVariants.{BadSheet, BadValue, BadKeyframes}
use Rattle.css_declarations.specs.DeclarationReading.{after}
use Rattle.css_declarations.specs.TokenKinds.{begins, is_ident, is_right_brace, is_word, place_of, token_text}
use Rattle.css_selectors.specs.Readings.{Read, Exactly, Then, Many, Listed, Braced, Declares}

abbrev pub is_at_word : CssKind → Bool
is_at_word AtWord = true
is_at_word other = false

abbrev pub is_number : CssKind → Bool
is_number Number = true
is_number other = false

-- bytes end with a `%`
abbrev pub ends_with_percent : List ℕ → Bool
ends_with_percent [] = false
ends_with_percent (byte ∷ []) = byte == 37
ends_with_percent (byte ∷ (other ∷ rest)) = ends_with_percent (other ∷ rest)

abbrev pub is_percentage : List ℕ → CssToken → Bool
is_percentage text token = is_number token.kind && ends_with_percent (token_text text token)

-- an offset was given before in the set
abbrev pub is_given : List ℕ → ℕ → Bool
is_given given offset = list_any (λ other. other == offset) given

-- an offset, from 0% to 100%, in hundredths of a percent
abbrev pub within_set : ℕ → List CssToken → ℤ → Read ℕ
within_set place rest (pos hundredths) = if nat_le hundredths 10000 then Ok (hundredths, rest) else Err (BadKeyframes place)
within_set place rest other = Err (BadKeyframes place)

abbrev pub measured : ℕ → List CssToken → Result ℤ ValueFault → Read ℕ
measured place rest (Ok hundredths) = within_set place rest hundredths
measured place rest (Err fault) = Err (BadValue place)

-- `from`, `to` or a percentage
unfoldable pub said_at : List ℕ → ℕ → List CssToken → Read ℕ
said_at text end [] = Err (BadSheet end)
said_at text end (token ∷ rest) =
    if is_word (codes "from") text token then Ok (0, rest)
    else (if is_word (codes "to") text token then Ok (10000, rest)
    else (if is_percentage text token then measured token.place.from rest (percentage_of (words text (token ∷ [])))
    else Err (BadSheet token.place.from)))

-- an offset that wasn't given before
abbrev pub new_offset : List ℕ → ℕ → ℕ × List CssToken → Read ℕ
new_offset given place said = if is_given given said.0 then Err (BadKeyframes place) else Ok said

unfoldable pub offset_at : List ℕ → ℕ → List ℕ → List CssToken → Read ℕ
offset_at text end given tokens = after (said_at text end tokens) (new_offset given (place_of end tokens))

-- a block: its offsets, and its declarations
pub record FrameBlock : Type 0 where
  pub offsets : List ℕ
  pub decls : List Decl

abbrev pub block_of : List ℕ → List Decl → FrameBlock
block_of offsets decls = record { offsets = offsets; decls = decls }

abbrev pub Offsets : List ℕ → ℕ → List ℕ → List CssToken → Read (List ℕ) → Type 0
Offsets text end given = Listed (λ before. Exactly (offset_at text end (given ++ before)))

abbrev pub OneBlock : List ℕ → ℕ → List ℕ → List CssToken → Read FrameBlock → Type 0
OneBlock text end given = Then block_of (Offsets text end given) (λ offsets. Braced end (Declares Block text end))

-- the offsets of some blocks
abbrev pub given_in : List FrameBlock → List ℕ
given_in [] = []
given_in (block ∷ blocks) = block.offsets ++ given_in blocks

abbrev pub are_closed : List FrameBlock → List CssToken → Bool
are_closed before tokens = begins is_right_brace tokens

abbrev pub Blocks : List ℕ → ℕ → List CssToken → Read (List FrameBlock) → Type 0
Blocks text end = Many (λ before. OneBlock text end (given_in before)) are_closed []

-- the name of a set: `none` and CSS-wide keywords are refused
abbrev pub may_name : List ℕ → Bool
may_name name = not (is_keyword (codes "none") name) && not (is_some (lookup reserved_words name))

unfoldable pub name_at : List ℕ → ℕ → List CssToken → Read (List ℕ)
name_at text end [] = Err (BadSheet end)
name_at text end (token ∷ rest) =
    if is_ident token.kind && may_name (token_text text token) then Ok (token_text text token, rest) else Err (BadSheet token.place.from)

-- `@keyframes` and a name
unfoldable pub head_at : List ℕ → ℕ → List CssToken → Read (List ℕ)
head_at text end [] = Err (BadSheet end)
head_at text end (token ∷ rest) =
    if is_at_word token.kind && is_keyword (codes "@keyframes") (token_text text token) then name_at text end rest else Err (BadSheet token.place.from)

-- what a declaration of a block sets
abbrev pub setting_in : Longhand → Option Setting
setting_in (Colour colour) = Some (record { prop = prop.Background; value = value.Colour colour })
setting_in (Opacity thousandths) = Some (record { prop = prop.Opacity; value = value.Opacity thousandths })
setting_in (Visibility visible) = Some (record { prop = prop.Visibility; value = value.Shown visible })
setting_in (Left length) = Some (record { prop = prop.Left; value = value.Length length })
setting_in (Top length) = Some (record { prop = prop.Top; value = value.Length length })
setting_in (Width length) = Some (record { prop = prop.Width; value = value.Length length })
setting_in (Height length) = Some (record { prop = prop.Height; value = value.Length length })
setting_in other = None

-- the later of two settings of one property counts, and stands at its own place
abbrev pub with_setting : List Setting → Setting → List Setting
with_setting values setting = filter (λ (other : Setting). not (is_same other.prop setting.prop)) values ++ (setting ∷ [])

abbrev pub with_any : List Setting → Option Setting → List Setting
with_any values None = values
with_any values (Some setting) = with_setting values setting

abbrev pub settings_behind : List Setting → List Decl → List Setting
settings_behind values [] = values
settings_behind values (decl ∷ decls) = settings_behind (with_any values (setting_in decl.longhand)) decls

-- the easing of a keyframe, of which the last counts
abbrev pub easing_in : Option Easing → Longhand → Option Easing
easing_in before (Easings (easing ∷ rest)) = Some easing
easing_in before other = before

abbrev pub easing_behind : Option Easing → List Decl → Option Easing
easing_behind before [] = before
easing_behind before (decl ∷ decls) = easing_behind (easing_in before decl.longhand) decls

abbrev pub keyframe : Option Easing → List Setting → ℕ → Keyframe
keyframe easing values offset = record { offset = offset; easing = easing; values = values }

abbrev pub frame_of : List Decl → ℕ → Keyframe
frame_of decls = keyframe (easing_behind None decls) (settings_behind [] decls)

-- a keyframe at its place among others, by its offset
abbrev pub with_frame : List Keyframe → Keyframe → List Keyframe
with_frame [] frame = frame ∷ []
with_frame (other ∷ frames) frame =
    match_ordering (nat_cmp frame.offset other.offset) (frame ∷ (other ∷ frames)) (frame ∷ frames) (other ∷ with_frame frames frame)

abbrev pub with_frames : (ℕ → Keyframe) → List Keyframe → List ℕ → List Keyframe
with_frames made frames [] = frames
with_frames made frames (offset ∷ offsets) = with_frames made (with_frame frames (made offset)) offsets

abbrev pub frames_behind : List Keyframe → List FrameBlock → List Keyframe
frames_behind frames [] = frames
frames_behind frames (block ∷ blocks) = frames_behind (with_frames (frame_of block.decls) frames block.offsets) blocks

abbrev pub set_of : List FrameBlock → KeyframeSet
set_of blocks = record { frames = frames_behind [] blocks }
