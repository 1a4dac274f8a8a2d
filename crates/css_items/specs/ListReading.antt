-- A list read from left to right.
use Rattle.std.specs.Prelude.{ℕ, suc, Bool, false, ◌≡◌, ◌&&◌, not, List, [], ◌∷◌, ◌++◌, Option, Some, None, Result, Ok, Err, if◌then◌else◌}
use Rattle.style_tokens.specs.declared.token.CssToken.{CssToken}
use Rattle.css_words.specs.declared.fault.ValueFault.{ValueFault}
use Rattle.css_words.specs.declared.fault.ValueFault.TheVariants.{BadValue, OverLimit, NoMemory}
use Rattle.css_words.specs.Words.{Word, is_comma, words}
use Rattle.css_items.specs.Lists.{goes_in, pieces, with_item}

-- how many tokens stand before the first comma outside parentheses
abbrev pub piece_length : Bool → List CssToken → ℕ
piece_length inside [] = 0
piece_length inside (token ∷ rest) = if not inside && is_comma token.kind then 0 else suc (piece_length (goes_in inside token.kind) rest)

-- the pieces behind a comma, if one stood there
abbrev pub later : List ℕ → Option (List CssToken) → List (List Word)
later text None = []
later text (Some rest) = pieces false (words text rest)

-- what a list is, where these items were read, one past a limit or none, and the others give this
abbrev pub resumed : {A : Type 0} → List A → Bool → Result (List A) ValueFault → Result (List A) ValueFault
resumed items over (Ok others) = if over then Err OverLimit else Ok (items ++ others)
resumed items over (Err fault) = Err fault

-- one more item was read
abbrev pub Adds : {A : Type 0} → List A → Bool → List A → Bool → Result A ValueFault → Result (Unit {0}) ValueFault → Type 0
Adds {A} old was_over new over item (Ok done) =
    (others : Result (List A) ValueFault) → resumed old was_over (with_item item others) ≡ resumed new over others
Adds old was_over new over item (Err BadValue) = item ≡ Err BadValue
Adds old was_over new over item (Err OverLimit) = ⊥
Adds old was_over new over item (Err NoMemory) = Unit {0}
