-- The text of a witness in form reads as it, and is UTF-8.
use Rattle.std.proofs.Common.{◌≡◌, ℕ, ◌+◌, ◌/◌, ◌%◌, ◌^◌, ◌<◌, ◌≤◌, ℤ, pos, negsuc, ◌≤ℤ◌, List, [], ◌∷◌, ◌++◌, All, Bool, true, false, Some, IsUtf8, codes, map, nat_lt, refl, arith, inl, inr, lt-ltb}
use Rattle.std.proofs.lemmas.Bool.Decides.{nat_tests}
use Rattle.std.proofs.lemmas.Fmt.{IsAscii-decimal, IsAscii-signed}
use Rattle.std.proofs.lemmas.Int.{ints}
use Rattle.std.proofs.lemmas.List.Elements.{All-head, All-tail}
use Rattle.std.proofs.lemmas.Str.{IsUtf8-append, IsUtf8-from_ascii}
use Rattle.json.proofs.Printed.Decimals.{IsNumber-decimal, IsNumber-signed_decimal}
use Rattle.json.proofs.Printed.Utf8.{IsUtf8-are_ascii}
use Rattle.serde_json.specs.Data.{Data, Members, array, member, no_members, string, unsigned}
use Rattle.serde_json.specs.Find.{of_integer}
use Rattle.serde_json.specs.Read.{read}
use Rattle.serde_json.specs.View.{items_of}
use Rattle.serde_json.specs.Written.{number_text}
use Rattle.serde_json.proofs.Numbers.{number_of-decimal, number_of-negative}
use Rattle.page_model.specs.declared.colour.Rgb.{Rgb}
use Rattle.page_model.specs.declared.colour.Tint.{Tint}
use Rattle.page_model.specs.declared.witness.Kind.{Kind}
use Rattle.page_model.specs.declared.witness.Kind.TheVariants.{General, Red}
use Rattle.page_model.specs.declared.witness.Part.{Part}
use Rattle.page_model.specs.declared.witness.Witness.{Witness}
use Rattle.witness_text.specs.PartValue.{kind_text, natural, part_value, tint_value}
use Rattle.witness_text.specs.TintText.{channel_text, colour_text, hex_digit, is_single, tint_text}
use Rattle.witness_text.specs.WitnessForm.{IsInForm, IsPartInForm, IsTintInForm, IsToldRate, word_limit}
use Rattle.witness_text.specs.WitnessText.{integer, value_of_first, value_of_second, witness_text, witness_value}
use Rattle.witness_text.proofs.Shape.{in_each_version, witness_within}
use Rattle.flash_top.proofs.SoundLemmas.{AreSoundItems, AreSoundMembers, IsSound, IsSoundNumber, sound_read, value_utf8}

-- ---- numbers

natural_sound : (n : ℕ) → n < 2 ^ 64 → IsSoundNumber (unsigned n)
natural_sound n fits = record {
  is_number = IsNumber-decimal n fits;
  back = number_of-decimal n fits;
  utf8 = IsUtf8-from_ascii (number_text (unsigned n)) (IsAscii-decimal n fits);
}

integer_sound : (z : ℤ) → negsuc 2147483647 ≤ℤ z → z ≤ℤ pos 2147483647 → IsSoundNumber (of_integer z)
integer_sound (pos n) least greatest = natural_sound n (omega (arith, ints))
integer_sound (negsuc n) least greatest =
    let fits : n < 2 ^ 63 = omega (arith, ints) in record {
      is_number = IsNumber-signed_decimal (negsuc n) fits;
      back = number_of-negative n fits;
      utf8 = IsUtf8-from_ascii (number_text (of_integer (negsuc n))) (IsAscii-signed (negsuc n) fits);
    }

-- ---- strings

digit_small : (d : ℕ) → d < 16 → hex_digit d < 128
digit_small d less = grind (arith, nat_tests)

channel_utf8 : (n : ℕ) → n < 256 → IsUtf8 (channel_text n)
channel_utf8 n small =
    let upper : nat_lt (hex_digit (n / 16)) 128 ≡ true = lt-ltb (hex_digit (n / 16)) 128 (digit_small (n / 16) (omega arith)) in
    let lower : nat_lt (hex_digit (n % 16)) 128 ≡ true = lt-ltb (hex_digit (n % 16)) 128 (digit_small (n % 16) (omega arith)) in
    IsUtf8-are_ascii (channel_text n) (rw (upper, lower) refl)

colour_utf8 : (c : Rgb) → c.r < 256 → c.g < 256 → c.b < 256 → IsUtf8 (colour_text c)
colour_utf8 c r g b =
    IsUtf8-append (channel_text c.r) (channel_text c.g ++ channel_text c.b) (channel_utf8 c.r r)
    (IsUtf8-append (channel_text c.g) (channel_text c.b) (channel_utf8 c.g g) (channel_utf8 c.b b))

tint_by : (t : Tint) (single : Bool) → is_single t ≡ single → IsUtf8 (colour_text t.lo) → IsUtf8 (colour_text t.hi) → IsUtf8 (tint_text t)
unfolding tint_text
tint_by t true is low high = rw is low
tint_by t false is low high =
    rw is (IsUtf8-append (colour_text t.lo) (45 ∷ colour_text t.hi) low
    (IsUtf8-append (45 ∷ []) (colour_text t.hi) (IsUtf8-are_ascii (45 ∷ []) refl) high))

tint_sound : (t : Tint) → IsTintInForm t → IsSound (tint_value t)
tint_sound t form =
    let red = form.red.fit in
    let green = form.green.fit in
    let blue = form.blue.fit in
    let low_red = form.red.ordered in
    let low_green = form.green.ordered in
    let low_blue = form.blue.ordered in
    tint_by t (is_single t) refl
    (colour_utf8 t.lo (omega (arith, red, low_red)) (omega (arith, green, low_green)) (omega (arith, blue, low_blue))) (colour_utf8 t.hi red green blue)

kind_utf8 : (kind : Kind) → IsUtf8 (kind_text kind)
kind_utf8 General = IsUtf8-are_ascii (codes "general") refl
kind_utf8 Red = IsUtf8-are_ascii (codes "red") refl

-- ---- arrays and objects

list_sound : {A : Type 0} (f : A → Data) (P : A → Type 0) → ((x : A) → P x → IsSound (f x)) → (xs : List A) → All P xs → AreSoundItems (items_of (map f xs))
list_sound f P sound [] all = tt
list_sound f P sound (x ∷ xs) all = (sound x (All-head P x xs all), list_sound f P sound xs (All-tail P x xs all))

frame_sound : (k : ℕ) → k < word_limit → IsSound (natural k)
frame_sound k less = natural_sound k (omega (arith, less))

part_sound : (p : Part) → IsPartInForm p → IsSound (part_value p)
unfolding part_value
part_sound p form =
    let x = form.x in
    let y = form.y in
    let width = form.width in
    let height = form.height in (
      (
        IsUtf8-are_ascii (codes "frames") refl,
        (
          list_sound natural (λ k. k < word_limit) frame_sound p.frames form.frames,
          (
            IsUtf8-are_ascii (codes "height") refl,
            (
              natural_sound p.height (omega (arith, height)),
              (
                IsUtf8-are_ascii (codes "kind") refl,
                (
                  kind_utf8 p.kind,
                  (
                    IsUtf8-are_ascii (codes "tints") refl,
                    (
                      list_sound tint_value IsTintInForm tint_sound p.tints form.tints,
                      (
                        IsUtf8-are_ascii (codes "width") refl,
                        (
                          natural_sound p.width (omega (arith, width)),
                          (
                            IsUtf8-are_ascii (codes "x") refl,
                            (
                              natural_sound p.x (omega (arith, x)),
                              (
                                IsUtf8-are_ascii (codes "y") refl,
                                (
                                  natural_sound p.y (omega (arith, y)),
                                  tt,
                                ),
                              ),
                            ),
                          ),
                        ),
                      ),
                    ),
                  ),
                ),
              ),
            ),
          ),
        ),
      ),
      refl,
    )

-- the members from the rate on, of either version
abbrev from_rate : ℕ → Witness → Members
from_rate version w =
    member (codes "rate") (natural w.rate)
    (member (codes "start") (natural w.start)
    (member (codes "verdict") (string (codes "fail"))
    (member (codes "version") (natural version)
    (member (codes "width") (natural w.width)
    (member (codes "x") (integer w.x)
    (member (codes "y") (integer w.y)
    no_members))))))

from_rate-sound : (version : ℕ) (w : Witness) → version ≤ 2 → IsInForm w → AreSoundMembers (from_rate version w)
from_rate-sound version w few form =
    let rate = form.rate in
    let start = form.start in
    let width = form.width in (
      IsUtf8-are_ascii (codes "rate") refl,
      (
        natural_sound w.rate (omega arith),
        (
          IsUtf8-are_ascii (codes "start") refl,
          (
            natural_sound w.start (omega arith),
            (
              IsUtf8-are_ascii (codes "verdict") refl,
              (
                IsUtf8-are_ascii (codes "fail") refl,
                (
                  IsUtf8-are_ascii (codes "version") refl,
                  (
                    natural_sound version (omega arith),
                    (
                      IsUtf8-are_ascii (codes "width") refl,
                      (
                        natural_sound w.width (omega arith),
                        (
                          IsUtf8-are_ascii (codes "x") refl,
                          (
                            integer_sound w.x form.x_least form.x_greatest,
                            (
                              IsUtf8-are_ascii (codes "y") refl,
                              (
                                integer_sound w.y form.y_least form.y_greatest,
                                tt,
                              ),
                            ),
                          ),
                        ),
                      ),
                    ),
                  ),
                ),
              ),
            ),
          ),
        ),
      ),
    )

-- all members, with some behind the parts
abbrev with_rest : Witness → Members → Members
with_rest w rest =
    member (codes "area") (natural w.area)
    (member (codes "height") (natural w.height)
    (member (codes "parts") (array (items_of (map part_value w.parts))) rest))

rest_sound : (w : Witness) (rest : Members) → IsInForm w → AreSoundMembers rest → AreSoundMembers (with_rest w rest)
rest_sound w rest form others =
    let area = form.area in
    let height = form.height in (
      IsUtf8-are_ascii (codes "area") refl,
      (
        natural_sound w.area (omega arith),
        (
          IsUtf8-are_ascii (codes "height") refl,
          (
            natural_sound w.height (omega arith),
            (
              IsUtf8-are_ascii (codes "parts") refl,
              (
                list_sound part_value IsPartInForm part_sound w.parts form.parts,
                others,
              ),
            ),
          ),
        ),
      ),
    )

first_sound : (w : Witness) → IsInForm w → IsSound (value_of_first w)
unfolding value_of_first
first_sound w form = (rest_sound w (from_rate 1 w) form (from_rate-sound 1 w (omega arith) form), refl)

per-small : (rate per : ℕ) → IsToldRate rate per → per < 2 ^ 64
per-small rate per (inl first) = let one = first.0 in omega arith
per-small rate per (inr second) = omega arith

second_sound : (w : Witness) → IsInForm w → IsSound (value_of_second w)
unfolding value_of_second
second_sound w form = (
  rest_sound w (member (codes "per") (natural w.per) (from_rate 2 w)) form (
    IsUtf8-are_ascii (codes "per") refl,
    (natural_sound w.per (per-small w.rate w.per form.told), from_rate-sound 2 w (omega arith) form),
  ),
  refl,
)

witness_sound : (w : Witness) → IsInForm w → IsSound (witness_value w)
witness_sound w form = in_each_version IsSound w (first_sound w form) (second_sound w form)

pub own_utf8 : (w : Witness) → IsInForm w → IsUtf8 (witness_text w)
unfolding witness_text
own_utf8 w form = value_utf8 (witness_value w) (witness_sound w form)

pub own_read : (w : Witness) → IsInForm w → read (witness_text w) ≡ Some (witness_value w)
unfolding witness_text
own_read w form = sound_read (witness_value w) (witness_sound w form) (witness_within w)
