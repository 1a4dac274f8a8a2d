-- Easings: CSS Easing Functions Level 1, as a profile.
use Rattle.std.specs.Prelude.{ℕ, Bool, ◌==◌, ◌&&◌, ◌||◌, not, List, length, Option, Some, None, Result, Ok, Err, nat_lt, codes, option_and_then, if◌then◌else◌}
use Rattle.page_model.specs.declared.easing.Easing.{Easing}
use Rattle.page_model.specs.declared.easing.Easing.TheVariants.{Steps, Cubic}
use Rattle.page_model.specs.declared.easing.Jump.{Jump}
use Rattle.page_model.specs.declared.easing.Jump.TheVariants.{End}
use Rattle.page_model.specs.ValidScene.{least_steps}
use Rattle.css_words.specs.declared.fault.ValueFault.{ValueFault}
use Rattle.css_words.specs.declared.fault.ValueFault.TheVariants.{BadValue, OverLimit}
use Rattle.css_words.specs.Keywords.{lookup}
use Rattle.css_easings.specs.EasingWords.{easing_words, jump_words}
use Rattle.css_words.specs.Words.{Word, behind, ended, front_of, function_at, lone, when_ident, is_comma, is_close, or_bad, or_else}
use Rattle.css_words.specs.Numerals.{Numeral, amount, number_at, signed_int, whole_at}

-- a comma, a word for the jump and `)`
unfoldable pub jump_word : List Word → Option Jump
jump_word words =
    option_and_then (λ rest.
    option_and_then (λ word.
    option_and_then (λ jump.
    option_and_then (ended jump) (behind is_close word.1))
    (lookup jump_words word.0)) (front_of when_ident rest)) (behind is_comma words)

-- `)`, or that
unfoldable pub jump_at : List Word → Option Jump
jump_at words = or_else (option_and_then (ended End) (behind is_close words)) (jump_word words)

-- `steps(`, a whole number, and the jump
unfoldable pub steps_at : List Word → Option (ℕ × Jump)
steps_at words =
    option_and_then (λ inside. option_and_then (λ n. option_and_then (λ jump. Some (n.0, jump)) (jump_at n.1)) (whole_at inside))
    (function_at (codes "steps(") words)

unfoldable pub steps_of : ℕ → Jump → Result Easing ValueFault
steps_of count jump =
    if nat_lt count (least_steps jump) then Err BadValue else
    (if nat_lt 1000 count then Err OverLimit else Ok (Steps count jump))

-- a number without unit, with three decimals at most: its sign and its thousandths
unfoldable pub thousandths_of : Numeral → Option (Bool × ℕ)
thousandths_of n = if length n.unit == 0 then option_and_then (λ size. Some (n.negative, size)) (amount 3 n) else None

unfoldable pub thousandths_at : List Word → Option ((Bool × ℕ) × List Word)
thousandths_at words = option_and_then (λ f. option_and_then (λ t. Some (t, f.1)) (thousandths_of f.0)) (number_at words)

-- such a number and a comma
unfoldable pub point_and_comma : List Word → Option ((Bool × ℕ) × List Word)
point_and_comma words = option_and_then (λ f. option_and_then (λ rest. Some (f.0, rest)) (behind is_comma f.1)) (thousandths_at words)

-- the points of a curve as they are written
pub record Points : Type 0 where
  pub x1 : Bool × ℕ
  pub y1 : Bool × ℕ
  pub x2 : Bool × ℕ
  pub y2 : Bool × ℕ

-- `cubic-bezier(`, four numbers with commas between, `)`
unfoldable pub points_at : List Word → Option Points
points_at words =
    option_and_then (λ inside.
    option_and_then (λ a.
    option_and_then (λ b.
    option_and_then (λ c.
    option_and_then (λ d.
    option_and_then (λ rest. ended (record { x1 = a.0; y1 = b.0; x2 = c.0; y2 = d.0 }) rest)
    (behind is_close d.1)) (thousandths_at c.1)) (point_and_comma b.1)) (point_and_comma a.1)) (point_and_comma inside))
    (function_at (codes "cubic-bezier(") words)

-- an x is from 0 to 1
unfoldable pub is_column : Bool × ℕ → Bool
is_column x = (not x.0 || x.1 == 0) && not (nat_lt 1000 x.1)

unfoldable pub curve_of : Points → Result Easing ValueFault
curve_of p =
    if is_column p.x1 && is_column p.x2 then
    (if nat_lt 4000 p.y1.1 || nat_lt 4000 p.y2.1 then Err OverLimit else
    Ok (Cubic p.x1.1 (signed_int p.y1.0 p.y1.1) p.x2.1 (signed_int p.y2.0 p.y2.1)))
    else Err BadValue

-- steps, or else what is spelled otherwise
abbrev pub stepped : Option (ℕ × Jump) → Result Easing ValueFault → Result Easing ValueFault
stepped (Some steps) other = steps_of steps.0 steps.1
stepped None other = other

-- a function with its words
unfoldable pub easing_function : List Word → Result Easing ValueFault
easing_function words = stepped (steps_at words) (or_bad (points_at words) curve_of)

-- a word, or else what is spelled otherwise
abbrev pub worded : Option Easing → Result Easing ValueFault → Result Easing ValueFault
worded (Some easing) other = Ok easing
worded None other = other

unfoldable pub easing_of : List Word → Result Easing ValueFault
easing_of words = worded (option_and_then (lookup easing_words) (lone when_ident words)) (easing_function words)
