-- Declarations with `;` between: CSS Syntax Module Level 3, "Parse a list of declarations", as a profile.
use Rattle.std.specs.Prelude.{ℕ, Bool, true, false, ◌≡◌, ◌&&◌, ◌||◌, not, List, [], ◌∷◌, ◌++◌, map, codes, Option, Some, Result, Ok, if◌then◌else◌}
use Rattle.std.specs.List.{list_all}
use Rattle.page_model.specs.declared.easing.Easing.{Easing}
use Rattle.page_model.specs.declared.rule.Decl.{Decl}
use Rattle.page_model.specs.declared.rule.Longhand.{Longhand}
use Rattle.page_model.specs.declared.rule.Longhand.TheVariants.{Easings}
use Rattle.style_tokens.specs.declared.token.CssKind.{CssKind}
use Rattle.style_tokens.specs.declared.token.CssToken.{CssToken}
use Rattle.css_words.specs.declared.fault.ValueFault.{ValueFault}
use Rattle.css_values.specs.declared.types.Property.{Property}
use Rattle.css_values.specs.declared.types.Property.TheVariants.{Left, Top, Width, Height, BackgroundColor, Background, Opacity, Visibility, AnimationTimingFunction}
use Rattle.css_easings.specs.Easings.{easing_of}
use Rattle.css_words.specs.Keywords.{lookup}
use Rattle.css_values.specs.PropertyNames.{property_names}
use Rattle.css_values.specs.ValueGrammar.{declaration_of}
use Rattle.css_words.specs.Words.{Word, mapped, words}
use Rattle.css_declarations.specs.declared.context.Context.{Context}
use Rattle.css_declarations.specs.declared.context.Context.TheVariants.{Inline, Rule, Block}
use Rattle.css_declarations.specs.TokenKinds.{begins, is_ident, is_colon, is_semicolon, is_left_brace, is_right_brace, is_bang, is_word, token_text}
use Rattle.css_declarations.specs.TokenRuns.{Run}

abbrev pub is_inline : Context → Bool
is_inline Inline = true
is_inline Rule = false
is_inline Block = false

abbrev pub is_block : Context → Bool
is_block Block = true
is_block Inline = false
is_block Rule = false

-- the properties that a block of keyframes may have: those that can be animated
abbrev pub is_animatable : Property → Bool
is_animatable BackgroundColor = true
is_animatable Background = true
is_animatable Opacity = true
is_animatable Visibility = true
is_animatable Left = true
is_animatable Top = true
is_animatable Width = true
is_animatable Height = true
is_animatable other = false

-- and its easing
abbrev pub is_easing : Property → Bool
is_easing AnimationTimingFunction = true
is_easing other = false

abbrev pub is_allowed : Context → Property → Bool
is_allowed context property = not (is_block context) || (is_animatable property || is_easing property)

-- the easing of a keyframe is one, and no list
abbrev pub has_one_easing : Context → Property → Bool
has_one_easing context property = is_block context && is_easing property

abbrev pub one_easing : Easing → List Longhand
one_easing easing = Easings (easing ∷ []) ∷ []

-- what words spell for a property there
unfoldable pub value_in : Context → Property → List Word → Result (List Longhand) ValueFault
value_in context property words =
    if has_one_easing context property then mapped one_easing (easing_of words) else declaration_of property words

-- an inline style is closed by its end, other declarations by a `}`
abbrev pub is_closed : Context → List CssToken → Bool
is_closed context [] = is_inline context
is_closed context (token ∷ rest) = not (is_inline context) && is_right_brace token.kind

-- behind a declaration stands a `;`, or they are closed
abbrev pub is_ended : Context → List CssToken → Bool
is_ended context tokens = begins is_semicolon tokens || is_closed context tokens

-- a value has all tokens up to the next `;`, `{`, `}` or `!`, or to the end
abbrev pub ends_value : CssKind → Bool
ends_value kind = is_semicolon kind || (is_left_brace kind || (is_right_brace kind || is_bang kind))

abbrev pub is_in_value : CssToken → Bool
is_in_value token = not (ends_value token.kind)

abbrev pub stops_value : List CssToken → Bool
stops_value [] = true
stops_value (token ∷ rest) = ends_value token.kind

-- the property that a token names
unfoldable pub property_of : List ℕ → CssToken → Option Property
property_of text name = lookup property_names (token_text text name)

-- the front of a declaration: a property's name, which may stand there
pub record IsName (context : Context) (text : List ℕ) (name : CssToken) (property : Property) : Type 0 where
  pub identifier : is_ident name.kind ≡ true
  pub names : property_of text name ≡ Some property
  pub allowed : is_allowed context property ≡ true

-- a name, `:` and the tokens of a value, with what they spell, and what is left
pub record IsValued (context : Context) (text : List ℕ) (tokens : List CssToken) (spelled : Result (List Longhand) ValueFault) (rest : List CssToken) : Type 0 where
  pub name : CssToken
  pub colon : CssToken
  pub value : List CssToken
  pub property : Property
  pub split : tokens ≡ name ∷ (colon ∷ (value ++ rest))
  pub named : IsName context text name property
  pub colon_is : is_colon colon.kind ≡ true
  pub in_value : list_all is_in_value value ≡ true
  pub stops : stops_value rest ≡ true
  pub spells : value_in context property (words text value) ≡ spelled

-- `!important`, or nothing
pub data IsMark (context : Context) (text : List ℕ) : List CssToken → Bool → List CssToken → Type 0 where
  unmarked : (rest : List CssToken) → begins is_bang rest ≡ false → IsMark context text rest false rest
  marked : (bang word : CssToken) (rest : List CssToken) → is_block context ≡ false → is_bang bang.kind ≡ true
      → is_word (codes "important") text word ≡ true → IsMark context text (bang ∷ (word ∷ rest)) true rest

-- one longhand of a declaration
abbrev pub decl_of : Bool → ℕ → Longhand → Decl
decl_of important place longhand = record { longhand = longhand; important = important; place = place }

-- a declaration with a `;` or the end behind it
pub record IsDeclaration (context : Context) (text : List ℕ) (tokens : List CssToken) (decls : List Decl) (rest : List CssToken) : Type 0 where
  pub longhands : List Longhand
  pub behind : List CssToken
  pub important : Bool
  pub valued : IsValued context text tokens (Ok longhands) behind
  pub mark : IsMark context text behind important rest
  pub ended : is_ended context rest ≡ true
  pub decls_are : decls ≡ map (decl_of important valued.name.place.from) longhands

-- a `;`, or a declaration
pub data IsUnit (context : Context) (text : List ℕ) : List CssToken → List Decl → List CssToken → Type 0 where
  semicolon : (token : CssToken) (rest : List CssToken) → is_semicolon token.kind ≡ true → IsUnit context text (token ∷ rest) [] rest
  declaration : (tokens : List CssToken) (decls : List Decl) (rest : List CssToken) → IsDeclaration context text tokens decls rest
      → IsUnit context text tokens decls rest

abbrev pub AreUnits : Context → List ℕ → List CssToken → List (List Decl) → List CssToken → Type 0
AreUnits context text = Run (λ before. IsUnit context text)

abbrev pub joined : {A : Type 0} → List (List A) → List A
joined [] = []
joined (part ∷ parts) = part ++ joined parts

-- declarations up to what closes them
pub record AreDeclarations (context : Context) (text : List ℕ) (tokens : List CssToken) (decls : List Decl) (rest : List CssToken) : Type 0 where
  pub units : List (List Decl)
  pub are_units : AreUnits context text tokens units rest
  pub decls_are : decls ≡ joined units
  pub closed : is_closed context rest ≡ true
