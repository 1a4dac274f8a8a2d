-- Colours.
use Rattle.std.specs.Prelude.{ℕ, ◌==◌, ◌+◌, ◌*◌, List, length, slice_index, Option, Some, None, Result, Ok, nat_lt, min, codes, option_and_then, if◌then◌else◌}
use Rattle.std.specs.Char.{digit_value}
use Rattle.page_model.specs.declared.colour.Rgba.{Rgba}
use Rattle.css_words.specs.declared.fault.ValueFault.{ValueFault}
use Rattle.css_words.specs.Keywords.{lookup}
use Rattle.css_colours.specs.ColourNames.{colour_names}
use Rattle.css_words.specs.Words.{Word, behind, ended, function_at, lone, when_hash, when_ident, is_comma, is_close, or_bad, or_else}
use Rattle.css_words.specs.Numerals.{whole_at, share_at}

-- the value of two hexadecimal digits
unfoldable pub pair : ℕ → ℕ → Option ℕ
pair high low =
    if nat_lt (digit_value high) 16 then (if nat_lt (digit_value low) 16 then Some (16 * digit_value high + digit_value low) else None) else None

-- a colour of four parts of 255 that are there: three channels and an alpha
unfoldable pub channels : Option ℕ → Option ℕ → Option ℕ → Option ℕ → Option Rgba
channels None green blue alpha = None
channels (Some r) None blue alpha = None
channels (Some r) (Some g) None alpha = None
channels (Some r) (Some g) (Some b) None = None
channels (Some r) (Some g) (Some b) (Some a) = Some (record { r = r; g = g; b = b; a = 1000 * a })

-- `#` and three or four hexadecimal digits, each of which counts twice, or six or eight; the alpha comes last, and is full
-- where it isn't there
unfoldable pub hash_colour : List ℕ → Option Rgba
hash_colour bytes =
    let digit = slice_index bytes in
    if length bytes == 4 then channels (pair (digit 1) (digit 1)) (pair (digit 2) (digit 2)) (pair (digit 3) (digit 3)) (Some 255) else
    (if length bytes == 5 then channels (pair (digit 1) (digit 1)) (pair (digit 2) (digit 2)) (pair (digit 3) (digit 3)) (pair (digit 4) (digit 4)) else
    (if length bytes == 7 then channels (pair (digit 1) (digit 2)) (pair (digit 3) (digit 4)) (pair (digit 5) (digit 6)) (Some 255) else
    (if length bytes == 9 then channels (pair (digit 1) (digit 2)) (pair (digit 3) (digit 4)) (pair (digit 5) (digit 6)) (pair (digit 7) (digit 8)) else None)))

-- such a number, held to 255, with what ends it
unfoldable pub channel_at : List Word → Option (ℕ × List Word)
channel_at words = option_and_then (λ f. Some (min f.0 255, f.1)) (whole_at words)

-- such a number and a comma
unfoldable pub channel_and_comma : List Word → Option (ℕ × List Word)
channel_and_comma words = option_and_then (λ f. option_and_then (λ rest. Some (f.0, rest)) (behind is_comma f.1)) (channel_at words)

-- `rgb(` or `rgba(`, which mean the same
unfoldable pub opening_at : List Word → Option (List Word)
opening_at words = or_else (function_at (codes "rgb(") words) (function_at (codes "rgba(") words)

-- a comma and an alpha in thousandths, held to 0 and 1; where there is no comma, the alpha is full
unfoldable pub alpha_at : List Word → Option (ℕ × List Word)
alpha_at words = elim (behind is_comma words) [ None ↦ Some (1000, words) | Some rest ↦ share_at rest ]

-- `rgb(` or `rgba(`, three whole numbers and an alpha or none with commas between, `)`
unfoldable pub rgb_of : List Word → Option Rgba
rgb_of words =
    option_and_then (λ inside.
    option_and_then (λ r.
    option_and_then (λ g.
    option_and_then (λ b.
    option_and_then (λ a.
    option_and_then (λ rest. ended (record { r = r.0; g = g.0; b = b.0; a = 255 * a.0 }) rest)
    (behind is_close a.1)) (alpha_at b.1)) (channel_at g.1)) (channel_and_comma r.1)) (channel_and_comma inside)) (opening_at words)

unfoldable pub colour_of : List Word → Result Rgba ValueFault
colour_of words =
    or_bad
    (or_else (option_and_then hash_colour (lone when_hash words))
    (or_else (option_and_then (lookup colour_names) (lone when_ident words)) (rgb_of words)))
    (λ c. Ok c)
