-- Lists of values with commas between. One wrong item makes the whole list wrong; else one past a limit makes it past a limit.
use Rattle.std.specs.Prelude.{Bool, true, false, ◌≡◌, ◌&&◌, not, List, [], ◌∷◌, map, Result, Ok, Err, if◌then◌else◌}
use Rattle.style_tokens.specs.declared.token.CssKind.{CssKind}
use Rattle.style_tokens.specs.declared.token.CssKind.TheVariants.{Function, RightParen}
use Rattle.css_words.specs.declared.fault.ValueFault.{ValueFault}
use Rattle.css_words.specs.declared.fault.ValueFault.TheVariants.{BadValue, OverLimit, NoMemory}
use Rattle.css_words.specs.Words.{Word, is_comma}

-- whether the words behind one of this kind stand in parentheses
abbrev pub goes_in : Bool → CssKind → Bool
goes_in inside Function = true
goes_in inside RightParen = false
goes_in inside other = inside

-- a word before the first piece
abbrev pub before_first : {A : Type 0} → A → List (List A) → List (List A)
before_first x [] = (x ∷ []) ∷ []
before_first x (piece ∷ pieces) = (x ∷ piece) ∷ pieces

-- the pieces between the commas that stand outside parentheses
abbrev pub pieces : Bool → List Word → List (List Word)
pieces inside [] = [] ∷ []
pieces inside (word ∷ rest) =
    if not inside && is_comma word.kind then [] ∷ pieces false rest else before_first word (pieces (goes_in inside word.kind) rest)

-- an item before others
abbrev pub with_item : {A : Type 0} → Result A ValueFault → Result (List A) ValueFault → Result (List A) ValueFault
with_item (Ok item) (Ok items) = Ok (item ∷ items)
with_item (Ok item) (Err fault) = Err fault
with_item (Err OverLimit) (Ok items) = Err OverLimit
with_item (Err OverLimit) (Err fault) = Err fault
with_item (Err BadValue) others = Err BadValue
with_item (Err NoMemory) others = Err NoMemory

abbrev pub gather : {A : Type 0} → List (Result A ValueFault) → Result (List A) ValueFault
gather [] = Ok []
gather (item ∷ items) = with_item item (gather items)

-- a list of items
abbrev pub list_of : {A : Type 0} → (List Word → Result A ValueFault) → List Word → Result (List A) ValueFault
list_of item words = gather (map item (pieces false words))

-- the answer is this value or fault, unless memory was refused
abbrev pub Gives : {A : Type 0} → Result A ValueFault → Result A ValueFault → Type 0
Gives (Ok value) spelled = spelled ≡ Ok value
Gives (Err BadValue) spelled = spelled ≡ Err BadValue
Gives (Err OverLimit) spelled = spelled ≡ Err OverLimit
Gives (Err NoMemory) spelled = Unit {0}
