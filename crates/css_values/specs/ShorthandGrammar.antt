-- The shorthand `animation`: CSS Animations Level 1, as a profile. The words of an item are taken from left to right.
use Rattle.std.specs.Prelude.{ℕ, ℤ, pos, suc, Bool, true, false, List, [], ◌∷◌, Option, Some, None, Result, Ok, Err, is_some, unwrap_or, option_and_then, if◌then◌else◌}
use Rattle.page_model.specs.declared.animation.Count.{Count}
use Rattle.page_model.specs.declared.animation.Count.TheVariants.{Times, Infinite}
use Rattle.page_model.specs.declared.animation.Direction.{Direction}
use Rattle.page_model.specs.declared.animation.Direction.TheVariants.{Normal}
use Rattle.page_model.specs.declared.animation.Fill.{Fill}
use Rattle.page_model.specs.declared.animation.Fill.TheVariants.{Absent}
use Rattle.page_model.specs.declared.easing.Easing.{Easing}
use Rattle.page_model.specs.declared.easing.Easing.TheVariants.{Linear, Cubic}
use Rattle.style_tokens.specs.declared.token.CssKind.{CssKind}
use Rattle.style_tokens.specs.declared.token.CssKind.TheVariants.{Function, RightParen}
use Rattle.style_tokens.specs.declared.token.CssToken.{CssToken}
use Rattle.css_words.specs.declared.fault.ValueFault.{ValueFault}
use Rattle.css_words.specs.declared.fault.ValueFault.TheVariants.{BadValue, OverLimit, NoMemory}
use Rattle.css_columns.specs.declared.item.Shorthand.{Shorthand}
use Rattle.css_easings.specs.Easings.{easing_of}
use Rattle.css_items.specs.ItemWords.{direction_words, fill_words, play_words}
use Rattle.css_items.specs.Lists.{before_first}
use Rattle.css_items.specs.Names.{keyword_of, name_of}
use Rattle.css_quantities.specs.Quantities.{count_of, duration_of, time_of}
use Rattle.css_words.specs.Words.{Word, or_bad, or_else}

-- whether a token of this kind ends a word: a function's word ends with its `)`
abbrev pub ends_word : Bool → CssKind → Bool
ends_word true RightParen = true
ends_word true other = false
ends_word false Function = false
ends_word false other = true

-- the words of an item, each with its tokens: a function with its parentheses is one
abbrev pub groups : Bool → List Word → List (List Word)
groups inside [] = if inside then [] ∷ [] else []
groups inside (word ∷ rest) = if ends_word inside word.kind then (word ∷ []) ∷ groups false rest else before_first word (groups true rest)

-- the slots of an item, each taken or free, and whether one was taken by a number past its limit
pub record Slots : Type 0 where
  pub duration : Option ℕ
  pub delay : Option ℤ
  pub easing : Option Easing
  pub count : Option Count
  pub direction : Option Direction
  pub fill : Option Fill
  pub paused : Option Bool
  pub name : Option (Option (List ℕ))
  pub over : Bool

-- nothing is taken
abbrev pub free : Slots
free = record { duration = None; delay = None; easing = None; count = None; direction = None; fill = None; paused = None; name = None; over = false }

-- a value, a number past its limit, or no value takes a slot, or doesn't
abbrev pub taken : {A : Type 0} → (A → Slots) → Slots → Result A ValueFault → Option Slots
taken into past (Ok value) = Some (into value)
taken into past (Err OverLimit) = Some past
taken into past (Err BadValue) = None
taken into past (Err NoMemory) = None

-- a keyword takes a slot, or doesn't
abbrev pub chosen : {A : Type 0} → (A → Slots) → Result A ValueFault → Option Slots
chosen into (Ok value) = Some (into value)
chosen into (Err fault) = None

-- the first time is the duration, the second the delay
unfoldable pub take_time : Slots → List Word → Option Slots
take_time slots word =
    if is_some slots.duration then
    (if is_some slots.delay then None else
    taken (λ delay. record slots { delay = Some delay }) (record slots { delay = Some (pos 0); over = true }) (time_of true word))
    else taken (λ duration. record slots { duration = Some duration }) (record slots { duration = Some 0; over = true }) (duration_of word)

unfoldable pub take_easing : Slots → List Word → Option Slots
take_easing slots word =
    if is_some slots.easing then None else
    taken (λ easing. record slots { easing = Some easing }) (record slots { easing = Some Linear; over = true }) (easing_of word)

unfoldable pub take_count : Slots → List Word → Option Slots
take_count slots word =
    if is_some slots.count then None else
    taken (λ count. record slots { count = Some count }) (record slots { count = Some Infinite; over = true }) (count_of word)

unfoldable pub take_direction : Slots → List Word → Option Slots
take_direction slots word =
    if is_some slots.direction then None else
    chosen (λ direction. record slots { direction = Some direction }) (keyword_of direction_words word)

unfoldable pub take_fill : Slots → List Word → Option Slots
take_fill slots word =
    if is_some slots.fill then None else chosen (λ fill. record slots { fill = Some fill }) (keyword_of fill_words word)

unfoldable pub take_play : Slots → List Word → Option Slots
take_play slots word =
    if is_some slots.paused then None else chosen (λ paused. record slots { paused = Some paused }) (keyword_of play_words word)

unfoldable pub take_name : Slots → List Word → Option Slots
take_name slots word =
    if is_some slots.name then None else chosen (λ name. record slots { name = Some name }) (name_of word)

-- a word is a time
abbrev pub is_value : {A : Type 0} → Result A ValueFault → Bool
is_value (Ok value) = true
is_value (Err OverLimit) = true
is_value (Err BadValue) = false
is_value (Err NoMemory) = false

-- a keyword, a count or an easing takes its slot where it is free; any other word, and one whose slot is taken, is the name
unfoldable pub take_keyword : Slots → List Word → Option Slots
take_keyword slots word =
    or_else (take_easing slots word) (or_else (take_count slots word)
    (or_else (take_direction slots word) (or_else (take_fill slots word) (or_else (take_play slots word) (take_name slots word)))))

unfoldable pub take_word : Slots → List Word → Option Slots
take_word slots word = if is_value (time_of true word) then take_time slots word else take_keyword slots word

abbrev pub take_all : Slots → List (List Word) → Option Slots
take_all slots [] = Some slots
take_all slots (word ∷ rest) = option_and_then (λ next. take_all next rest) (take_word slots word)

-- slots that got nothing have the initial values
unfoldable pub settled : Slots → Result Shorthand ValueFault
settled slots =
    if slots.over then Err OverLimit else
    Ok (record {
      name = unwrap_or slots.name None;
      duration = unwrap_or slots.duration 0;
      easing = unwrap_or slots.easing (Cubic 250 (pos 100) 250 (pos 1000));
      delay = unwrap_or slots.delay (pos 0);
      count = unwrap_or slots.count (Times 1000);
      direction = unwrap_or slots.direction Normal;
      fill = unwrap_or slots.fill Absent;
      paused = unwrap_or slots.paused false;
    })

-- an item has a word
unfoldable pub item_of : List Word → Result Shorthand ValueFault
item_of [] = Err BadValue
item_of (word ∷ rest) = or_bad (take_all free (groups false (word ∷ rest))) settled

-- how many tokens the first word of an item has
abbrev pub word_length : Bool → List CssToken → ℕ
word_length inside [] = 0
word_length inside (token ∷ rest) = if ends_word inside token.kind then 1 else suc (word_length true rest)
