-- Style sheets: CSS Syntax Module Level 3, "Parse a stylesheet", as a profile. A sheet is rules and keyframe sets one after the other.
use Rattle.std.specs.Prelude.{ℕ, Bool, true, false, List, [], ◌∷◌}
use Rattle.page_model.specs.declared.keyframe.KeyframeSet.{KeyframeSet}
use Rattle.page_model.specs.declared.rule.Compound.{Compound}
use Rattle.page_model.specs.declared.rule.Decl.{Decl}
use Rattle.page_model.specs.declared.rule.Rule.{Rule as StyleRule}
use Rattle.style_tokens.specs.declared.token.CssToken.{CssToken}
use Rattle.css_declarations.specs.declared.context.Context.TheVariants.{Rule}
use Rattle.css_declarations.specs.TokenKinds.{begins}
use Rattle.css_parts.specs.KeyframeGrammar.{FrameBlock, Blocks, head_at, is_at_word, set_of}
use Rattle.css_selectors.specs.Readings.{Read, Exactly, Then, Many, Braced, Declares}
use Rattle.css_selectors.specs.SelectorGrammar.{Selectors}
use Rattle.css_reader.specs.SheetState.{SheetState, no_rules, with_rule, with_set}

pub data Item : Type 0 where
  rule : StyleRule → Item
  keyframes : List ℕ → KeyframeSet → Item

abbrev pub rule_of : List Compound → List Decl → Item
rule_of selectors decls = rule (record { selectors = selectors; decls = decls })

abbrev pub keyframes_of : List ℕ → List FrameBlock → Item
keyframes_of name blocks = keyframes name (set_of blocks)

-- selectors, and declarations in braces
abbrev pub IsRule : List ℕ → ℕ → List CssToken → Read Item → Type 0
IsRule text end = Then rule_of (Selectors text end) (λ selectors. Braced end (Declares Rule text end))

-- `@keyframes`, a name, and blocks in braces
abbrev pub AreKeyframes : List ℕ → ℕ → List CssToken → Read Item → Type 0
AreKeyframes text end = Then keyframes_of (Exactly (head_at text end)) (λ name. Braced end (Blocks text end))

abbrev pub item_by : Bool → List ℕ → ℕ → List CssToken → Read Item → Type 0
item_by true text end = AreKeyframes text end
item_by false text end = IsRule text end

abbrev pub IsItem : List ℕ → ℕ → List CssToken → Read Item → Type 0
IsItem text end tokens = item_by (begins is_at_word tokens) text end tokens

abbrev pub is_end : List CssToken → Bool
is_end [] = true
is_end (token ∷ rest) = false

abbrev pub is_end_behind : List Item → List CssToken → Bool
is_end_behind before tokens = is_end tokens

abbrev pub Items : List ℕ → ℕ → List Item → List CssToken → Read (List Item) → Type 0
Items text end = Many (λ before. IsItem text end) is_end_behind

-- what the items make
abbrev pub with_item : SheetState → Item → SheetState
with_item sheet (rule one) = with_rule sheet one
with_item sheet (keyframes name set) = with_set sheet name set

abbrev pub sheet_behind : SheetState → List Item → SheetState
sheet_behind sheet [] = sheet
sheet_behind sheet (item ∷ items) = sheet_behind (with_item sheet item) items

abbrev pub sheet_of : List Item → SheetState
sheet_of items = sheet_behind no_rules items
