-- No value is spelled as want of memory.
use Rattle.std.proofs.Common.{ℕ, pos, Bool, true, false, ◌≡◌, List, [], ◌∷◌, Option, Some, None, Result, Ok, Err, length, option_and_then, cond}
use Rattle.std.specs.Prelude.{◌==◌, ◌&&◌, ◌||◌, not, codes, nat_lt}
use Rattle.page_model.specs.declared.animation.Count.TheVariants.{Times, Infinite}
use Rattle.page_model.specs.declared.easing.Easing.{Easing}
use Rattle.page_model.specs.declared.easing.Easing.TheVariants.{Steps, Cubic}
use Rattle.page_model.specs.declared.easing.Jump.{Jump}
use Rattle.page_model.specs.declared.rule.Longhand.{Longhand}
use Rattle.page_model.specs.declared.rule.Longhand.TheVariants as longhands
use Rattle.page_model.specs.ValidScene.{least_steps}
use Rattle.css_words.specs.declared.fault.ValueFault.{ValueFault}
use Rattle.css_words.specs.declared.fault.ValueFault.TheVariants.{BadValue, OverLimit}
use Rattle.css_columns.specs.Columns.{columns}
use Rattle.css_values.specs.declared.types.Property.{Property}
use Rattle.css_values.specs.declared.types.Property.TheVariants.{Position, Left, Top, Width, Height, BackgroundColor, Background, Opacity, Visibility, ZIndex, Margin, Padding, AnimationName, AnimationDuration, AnimationDelay, AnimationTimingFunction, AnimationIterationCount, AnimationDirection, AnimationFillMode, AnimationPlayState, Animation}
use Rattle.css_colours.specs.Colours.{colour_of}
use Rattle.css_easings.specs.Easings.{Points, curve_of, easing_function, easing_of, is_column, points_at, stepped, steps_at, steps_of, worded}
use Rattle.css_items.specs.ItemWords.{direction_words, fill_words, play_words, reserved_words, visibility_words}
use Rattle.css_items.specs.Lists.{list_of}
use Rattle.css_items.specs.Names.{keyword_of, name_of, named}
use Rattle.css_quantities.specs.Quantities.{count_of, duration_of, is_nothing, length_of, length_size, opacity_of, percentage_of, size_of, time_of, time_size, within, z_index_of}
use Rattle.css_values.specs.ShorthandGrammar.{free, groups, item_of, settled, take_all, Slots}
use Rattle.css_values.specs.ValueGrammar.{declaration_of, is_shorthand, longhand_of, only_if}
use Rattle.css_words.specs.Keywords.{is_keyword, lookup}
use Rattle.css_words.specs.Numerals.{Numeral, amount, is_zero, lone_number, share_of, signed_int}
use Rattle.css_words.specs.Words.{Word, is_lone, lone, mapped, or_bad, when_ident}
use Rattle.css_values.proofs.ToldValues.{IsTold, told_if, told_list, told_mapped, told_or_bad}

-- numbers
within_told : (signed : Bool) (limit : ℕ) (negative : Bool) (n : ℕ) → IsTold (within signed limit negative n)
unfolding within
within_told signed limit negative n =
    told_if (negative && (not signed && not (n == 0))) (Err BadValue) (cond (nat_lt limit n) (Err OverLimit) (Ok n)) tt (told_if (nat_lt limit n) (Err OverLimit) (Ok n) tt tt)

size_told : (places : ℕ) (signed : Bool) (limit : ℕ) (n : Numeral) → IsTold (size_of places signed limit n)
unfolding size_of
size_told places signed limit n = told_or_bad (amount places n) (within signed limit n.negative) (within_told signed limit n.negative)

length_size_told : (signed : Bool) (n : Numeral) → IsTold (length_size signed n)
unfolding length_size
length_size_told signed n =
    told_if (is_keyword (codes "px") n.unit) (size_of 2 signed 819200 n) _ (size_told 2 signed 819200 n) (told_if (length n.unit == 0 && is_zero n) (Ok 0) (Err BadValue) tt tt)

pub length_told : (signed : Bool) (words : List Word) → IsTold (length_of signed words)
unfolding length_of
length_told signed words =
    told_or_bad (lone_number words) (λ n. mapped (signed_int n.negative) (length_size signed n))
    (λ n. told_mapped (signed_int n.negative) (length_size signed n) (length_size_told signed n))

time_size_told : (signed : Bool) (n : Numeral) → IsTold (time_size signed n)
unfolding time_size
time_size_told signed n =
    told_if (is_keyword (codes "s") n.unit) (size_of 3 signed 100000 n) _ (size_told 3 signed 100000 n)
    (told_if (is_keyword (codes "ms") n.unit) (size_of 0 signed 100000 n) (Err BadValue) (size_told 0 signed 100000 n) tt)

pub time_told : (signed : Bool) (words : List Word) → IsTold (time_of signed words)
unfolding time_of
time_told signed words =
    told_or_bad (lone_number words) (λ n. mapped (signed_int n.negative) (time_size signed n))
    (λ n. told_mapped (signed_int n.negative) (time_size signed n) (time_size_told signed n))

duration_told : (words : List Word) → IsTold (duration_of words)
unfolding duration_of
duration_told words = told_or_bad (lone_number words) (time_size false) (time_size_told false)

pub percentage_told : (words : List Word) → IsTold (percentage_of words)
unfolding percentage_of
percentage_told words =
    told_or_bad (lone_number words)
    (λ n. cond (is_keyword (codes "%") n.unit) (or_bad (amount 2 n) (λ size. Ok (signed_int n.negative size))) (Err BadValue))
    (λ n. told_if (is_keyword (codes "%") n.unit) (or_bad (amount 2 n) (λ size. Ok (signed_int n.negative size))) (Err BadValue)
    (told_or_bad (amount 2 n) (λ size. Ok (signed_int n.negative size)) (λ size. tt)) tt)

pub opacity_told : (words : List Word) → IsTold (opacity_of words)
unfolding opacity_of
opacity_told words =
    told_or_bad (lone_number words) (λ n. or_bad (share_of n) (λ share. Ok share)) (λ n. told_or_bad (share_of n) (λ share. Ok share) (λ share. tt))

pub level_told : (words : List Word) → IsTold (z_index_of words)
unfolding z_index_of
level_told words =
    told_if (is_lone (codes "auto") words) (Ok (pos 0)) _ tt
    (told_or_bad (lone_number words) (λ n. cond (length n.unit == 0) (mapped (signed_int n.negative) (size_of 0 true 1000000 n)) (Err BadValue))
    (λ n. told_if (length n.unit == 0) (mapped (signed_int n.negative) (size_of 0 true 1000000 n)) (Err BadValue)
    (told_mapped (signed_int n.negative) (size_of 0 true 1000000 n) (size_told 0 true 1000000 n)) tt))

count_told : (words : List Word) → IsTold (count_of words)
unfolding count_of
count_told words =
    told_if (is_lone (codes "infinite") words) (Ok Infinite) _ tt
    (told_or_bad (lone_number words) (λ n. cond (length n.unit == 0) (mapped Times (size_of 3 false 10000000 n)) (Err BadValue))
    (λ n. told_if (length n.unit == 0) (mapped Times (size_of 3 false 10000000 n)) (Err BadValue) (told_mapped Times (size_of 3 false 10000000 n) (size_told 3 false 10000000 n)) tt))

-- colours
pub colour_told : (words : List Word) → IsTold (colour_of words)
unfolding colour_of
colour_told words = told_or_bad _ (λ c. Ok c) (λ c. tt)

-- easings
steps_told : (count : ℕ) (jump : Jump) → IsTold (steps_of count jump)
unfolding steps_of
steps_told count jump =
    told_if (nat_lt count (least_steps jump)) (Err BadValue) _ tt (told_if (nat_lt 1000 count) (Err OverLimit) (Ok (Steps count jump)) tt tt)

curve_told : (p : Points) → IsTold (curve_of p)
unfolding curve_of
curve_told p =
    told_if (is_column p.x1 && is_column p.x2) _ (Err BadValue)
    (told_if (nat_lt 4000 p.y1.1 || nat_lt 4000 p.y2.1) (Err OverLimit) (Ok (Cubic p.x1.1 (signed_int p.y1.0 p.y1.1) p.x2.1 (signed_int p.y2.0 p.y2.1))) tt tt) tt

stepped_told : (steps : Option (ℕ × Jump)) (other : Result Easing ValueFault) → IsTold other → IsTold (stepped steps other)
stepped_told None other told = told
stepped_told (Some steps) other told = steps_told steps.0 steps.1

worded_told : (word : Option Easing) (other : Result Easing ValueFault) → IsTold other → IsTold (worded word other)
worded_told None other told = told
worded_told (Some easing) other told = tt

function_told : (words : List Word) → IsTold (easing_function words)
unfolding easing_function
function_told words = stepped_told (steps_at words) (or_bad (points_at words) curve_of) (told_or_bad (points_at words) curve_of curve_told)

pub easing_told : (words : List Word) → IsTold (easing_of words)
unfolding easing_of
easing_told words = worded_told _ (easing_function words) (function_told words)

-- words
keyword_told : {A : Type 0} (table : List (List ℕ × A)) (words : List Word) → IsTold (keyword_of table words)
unfolding keyword_of
keyword_told table words = told_or_bad (option_and_then (lookup table) (lone when_ident words)) (λ value. Ok value) (λ value. tt)

named_told : (bytes : List ℕ) → IsTold (named bytes)
unfolding named
named_told bytes = told_if (is_keyword (codes "none") bytes) (Ok None) _ tt (by_table (lookup reserved_words bytes)) where
  by_table : (found : Option Bool) → IsTold {A = Option (List ℕ)} (elim found [ Some is ↦ Err BadValue | None ↦ Ok (Some bytes) ])
  by_table (Some is) = tt
  by_table None = tt

name_told : (words : List Word) → IsTold (name_of words)
unfolding name_of
name_told words = told_or_bad (lone when_ident words) named named_told

-- the shorthand
settled_told : (slots : Slots) → IsTold (settled slots)
unfolding settled
settled_told slots = told_if slots.over (Err OverLimit) _ tt tt

item_told : (words : List Word) → IsTold (item_of words)
unfolding item_of
item_told [] = tt
item_told (word ∷ rest) = told_or_bad (take_all free (groups false (word ∷ rest))) settled settled_told

-- a declaration
only_told : (holds : Bool) (longhand : Longhand) → IsTold (only_if holds longhand)
only_told holds longhand = told_if holds (Ok longhand) (Err BadValue) tt tt

longhand_told : (property : Property) (words : List Word) → IsTold (longhand_of property words)
longhand_told Position words = only_told (is_lone (codes "absolute") words) longhands.Position
longhand_told Left words = told_mapped longhands.Left (length_of true words) (length_told true words)
longhand_told Top words = told_mapped longhands.Top (length_of true words) (length_told true words)
longhand_told Width words = told_mapped longhands.Width (length_of false words) (length_told false words)
longhand_told Height words = told_mapped longhands.Height (length_of false words) (length_told false words)
longhand_told BackgroundColor words = told_mapped longhands.Colour (colour_of words) (colour_told words)
longhand_told Background words = told_mapped longhands.Colour (colour_of words) (colour_told words)
longhand_told Opacity words = told_mapped longhands.Opacity (opacity_of words) (opacity_told words)
longhand_told Visibility words = told_mapped longhands.Visibility (keyword_of visibility_words words) (keyword_told visibility_words words)
longhand_told ZIndex words = told_mapped longhands.ZIndex (z_index_of words) (level_told words)
longhand_told Margin words = only_told (is_nothing words) longhands.Margin
longhand_told Padding words = only_told (is_nothing words) longhands.Padding
longhand_told AnimationName words = told_mapped longhands.Names (list_of name_of words) (told_list name_of name_told words)
longhand_told AnimationDuration words = told_mapped longhands.Durations (list_of duration_of words) (told_list duration_of duration_told words)
longhand_told AnimationDelay words = told_mapped longhands.Delays (list_of (time_of true) words) (told_list (time_of true) (time_told true) words)
longhand_told AnimationTimingFunction words = told_mapped longhands.Easings (list_of easing_of words) (told_list easing_of easing_told words)
longhand_told AnimationIterationCount words = told_mapped longhands.Counts (list_of count_of words) (told_list count_of count_told words)
longhand_told AnimationDirection words = told_mapped longhands.Directions (list_of (keyword_of direction_words) words) (told_list (keyword_of direction_words) (keyword_told direction_words) words)
longhand_told AnimationFillMode words = told_mapped longhands.Fills (list_of (keyword_of fill_words) words) (told_list (keyword_of fill_words) (keyword_told fill_words) words)
longhand_told AnimationPlayState words = told_mapped longhands.Paused (list_of (keyword_of play_words) words) (told_list (keyword_of play_words) (keyword_told play_words) words)
longhand_told Animation words = tt

pub declaration_told : (property : Property) (words : List Word) → IsTold (declaration_of property words)
unfolding declaration_of
declaration_told property words =
    told_if (is_shorthand property) _ _ (told_mapped columns (list_of item_of words) (told_list item_of item_told words))
    (told_mapped (λ longhand. longhand ∷ []) (longhand_of property words) (longhand_told property words))
