-- What is found of a witness in a JSON value by looking at fixed places, with 0 and the like where nothing fits. No look refuses:
-- whether the value is the object of what was found is told by comparing texts.
use Rattle.std.specs.Prelude.{ℕ, ◌+◌, ◌-◌, ◌*◌, ◌&&◌, ◌==◌, ℤ, pos, negsuc, int_le, max, nat_lt, nat_le, List, [], ◌∷◌, length, map, codes, slice_get, if◌then◌else◌, Option, option_and_then, unwrap_or}
use Rattle.serde_json.specs.Data.{Data, Items, no_items, item}
use Rattle.serde_json.specs.Find.{get, at, as_number, as_str, as_array, as_u64, as_i64}
use Rattle.page_model.specs.declared.colour.Rgb.{Rgb}
use Rattle.page_model.specs.declared.colour.Tint.{Tint}
use Rattle.page_model.specs.declared.witness.Kind.{Kind}
use Rattle.page_model.specs.declared.witness.Kind.TheVariants.{General, Red}
use Rattle.page_model.specs.declared.witness.Part.{Part}
use Rattle.page_model.specs.declared.witness.Witness.{Witness}
use Rattle.witness_text.specs.WitnessForm.{short_limit, word_limit}

-- ---- numbers

-- a whole number that isn't negative
unfoldable pub natural_in : Option Data → ℕ
natural_in o = unwrap_or (option_and_then as_u64 (option_and_then as_number o)) 0

-- a number below a limit
abbrev pub below : ℕ → ℕ → ℕ
below limit n = if nat_lt n limit then n else 0

unfoldable pub short_in : Option Data → ℕ
short_in o = below short_limit (natural_in o)

unfoldable pub word_in : Option Data → ℕ
word_in o = below word_limit (natural_in o)

-- the seconds of a rate: 1,001 where they are told, else 1
unfoldable pub per_in : Option Data → ℕ
per_in o = if natural_in o == 1001 then 1001 else 1

-- the frames in so many seconds
unfoldable pub rate_in : ℕ → Option Data → ℕ
rate_in per o = if per == 1 then short_in o else word_in o

-- a whole number of either sign
unfoldable pub integer_in : Option Data → ℤ
integer_in o = unwrap_or (option_and_then as_i64 (option_and_then as_number o)) (pos 0)

-- one of 32 bits
abbrev pub signed : ℤ → ℤ
signed z = if int_le (negsuc 2147483647) z && int_le z (pos 2147483647) then z else pos 0

unfoldable pub signed_in : Option Data → ℤ
signed_in o = signed (integer_in o)

-- ---- texts

unfoldable pub text_in : Option Data → List ℕ
text_in o = unwrap_or (option_and_then as_str o) []

-- the word of three letters is that of the red kind
unfoldable pub kind_in : Option Data → Kind
kind_in o = if length (text_in o) == 3 then Red else General

abbrev pub byte_at : List ℕ → ℕ → ℕ
byte_at bytes i = unwrap_or (slice_get bytes i) 0

-- a hexadecimal digit of lower case
abbrev pub digit_value : ℕ → ℕ
digit_value b =
    if nat_le 48 b && nat_le b 57 then b - 48 else (if nat_le 97 b && nat_le b 102 then b - 87 else 0)

-- two digits
unfoldable pub channel_at : List ℕ → ℕ → ℕ
channel_at bytes i = 16 * digit_value (byte_at bytes i) + digit_value (byte_at bytes (i + 1))

-- six digits
unfoldable pub colour_at : List ℕ → ℕ → Rgb
colour_at bytes i =
    record { r = channel_at bytes i; g = channel_at bytes (i + 2); b = channel_at bytes (i + 4) }

-- in each channel the greater one
abbrev pub above : Rgb → Rgb → Rgb
above a b = record { r = max a.r b.r; g = max a.g b.g; b = max a.b b.b }

-- one colour, or where there are more than its six digits two; the upper one is never below the lower one
unfoldable pub tint_at : List ℕ → Tint
tint_at bytes = record {
  lo = colour_at bytes 0;
  hi = above (colour_at bytes 0) (if nat_lt 6 (length bytes) then colour_at bytes 7 else colour_at bytes 0);
}

unfoldable pub tint_in : Option Data → Tint
tint_in o = tint_at (text_in o)

-- ---- arrays

-- the items as a list
abbrev pub list_of : Items → List Data
list_of no_items = []
list_of (item d ds) = d ∷ list_of ds

unfoldable pub list_in : Option Data → List Data
list_in o = list_of (unwrap_or (option_and_then as_array o) no_items)

abbrev pub item_in : Option Data → ℕ → Option Data
item_in o i = option_and_then (at i) o

-- the values of the first nine items
abbrev pub nine_of : {A : Type 0} → (Option Data → A) → Option Data → List A
nine_of f o =
    f (item_in o 0) ∷ f (item_in o 1) ∷ f (item_in o 2) ∷ f (item_in o 3) ∷ f (item_in o 4) ∷ f (item_in o 5)
    ∷ f (item_in o 6) ∷ f (item_in o 7) ∷ f (item_in o 8) ∷ []

-- ---- objects

unfoldable pub part_in : Data → Part
part_in d = record {
  x = short_in (get (codes "x") d);
  y = short_in (get (codes "y") d);
  width = short_in (get (codes "width") d);
  height = short_in (get (codes "height") d);
  kind = kind_in (get (codes "kind") d);
  frames = nine_of word_in (get (codes "frames") d);
  tints = nine_of tint_in (get (codes "tints") d);
}

unfoldable pub witness_in : Data → Witness
witness_in d = record {
  width = short_in (get (codes "width") d);
  height = short_in (get (codes "height") d);
  rate = rate_in (per_in (get (codes "per") d)) (get (codes "rate") d);
  per = per_in (get (codes "per") d);
  start = word_in (get (codes "start") d);
  x = signed_in (get (codes "x") d);
  y = signed_in (get (codes "y") d);
  area = word_in (get (codes "area") d);
  parts = map part_in (list_in (get (codes "parts") d));
}
