-- Lengths, times, percentages and plain numbers. A negative number where none may be spells no value; -0 is 0.
use Rattle.std.specs.Prelude.{ℕ, ℤ, pos, Bool, true, false, ◌==◌, ◌&&◌, ◌||◌, not, List, length, Some, None, Result, Ok, Err, nat_lt, codes, if◌then◌else◌}
use Rattle.page_model.specs.declared.animation.Count.{Count}
use Rattle.page_model.specs.declared.animation.Count.TheVariants.{Times, Infinite}
use Rattle.css_words.specs.declared.fault.ValueFault.{ValueFault}
use Rattle.css_words.specs.declared.fault.ValueFault.TheVariants.{BadValue, OverLimit}
use Rattle.css_words.specs.Keywords.{is_keyword}
use Rattle.css_words.specs.Words.{Word, is_lone, or_bad, mapped}
use Rattle.css_words.specs.Numerals.{Numeral, amount, is_zero, lone_number, share_of, signed_int}

-- a number of parts that may be negative or not, and has a limit
unfoldable pub within : Bool → ℕ → Bool → ℕ → Result ℕ ValueFault
within signed limit negative n =
    if negative && (not signed && not (n == 0)) then Err BadValue else
    (if nat_lt limit n then Err OverLimit else Ok n)

-- the size of a number in parts of ten to the places
unfoldable pub size_of : ℕ → Bool → ℕ → Numeral → Result ℕ ValueFault
size_of places signed limit n = or_bad (amount places n) (within signed limit n.negative)

-- hundredths of a pixel, up to 8,192 px: with the unit `px` and two decimals at most, or 0 without unit
unfoldable pub length_size : Bool → Numeral → Result ℕ ValueFault
length_size signed n =
    if is_keyword (codes "px") n.unit then size_of 2 signed 819200 n else
    (if length n.unit == 0 && is_zero n then Ok 0 else Err BadValue)

unfoldable pub length_of : Bool → List Word → Result ℤ ValueFault
length_of signed words = or_bad (lone_number words) (λ n. mapped (signed_int n.negative) (length_size signed n))

-- milliseconds, up to 100 s: with the unit `s` and three decimals at most, or with `ms` and no point
unfoldable pub time_size : Bool → Numeral → Result ℕ ValueFault
time_size signed n =
    if is_keyword (codes "s") n.unit then size_of 3 signed 100000 n else
    (if is_keyword (codes "ms") n.unit then size_of 0 signed 100000 n else Err BadValue)

unfoldable pub time_of : Bool → List Word → Result ℤ ValueFault
time_of signed words = or_bad (lone_number words) (λ n. mapped (signed_int n.negative) (time_size signed n))

-- a time that is not negative
unfoldable pub duration_of : List Word → Result ℕ ValueFault
duration_of words = or_bad (lone_number words) (time_size false)

-- hundredths of a percent: with `%` and two decimals at most
unfoldable pub percentage_of : List Word → Result ℤ ValueFault
percentage_of words = or_bad (lone_number words) (λ n.
    if is_keyword (codes "%") n.unit then or_bad (amount 2 n) (λ size. Ok (signed_int n.negative size)) else Err BadValue)

-- thousandths, held to 0 and 1: without unit, with three decimals at most
unfoldable pub opacity_of : List Word → Result ℕ ValueFault
opacity_of words = or_bad (lone_number words) (λ n. or_bad (share_of n) (λ share. Ok share))

-- `auto`, which is 0, or a whole number up to 1,000,000 without unit and point
unfoldable pub z_index_of : List Word → Result ℤ ValueFault
z_index_of words =
    if is_lone (codes "auto") words then Ok (pos 0) else
    or_bad (lone_number words) (λ n.
    if length n.unit == 0 then mapped (signed_int n.negative) (size_of 0 true 1000000 n) else Err BadValue)

-- `infinite`, or thousandths of an iteration up to 10,000: without unit, with three decimals at most, not negative
unfoldable pub count_of : List Word → Result Count ValueFault
count_of words =
    if is_lone (codes "infinite") words then Ok Infinite else
    or_bad (lone_number words) (λ n.
    if length n.unit == 0 then mapped Times (size_of 3 false 10000000 n) else Err BadValue)

-- a number of value 0, without unit or with `px`
unfoldable pub is_nothing : List Word → Bool
is_nothing words = elim (lone_number words) [ None ↦ false | Some n ↦ is_zero n && (length n.unit == 0 || is_keyword (codes "px") n.unit) ]
