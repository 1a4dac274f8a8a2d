-- The text of a witness is short: a part takes few bytes, so the parts that a rectangle can hold fit a file.
use Rattle.std.proofs.Common.{◌≡◌, ℕ, ◌+◌, ◌*◌, ◌/◌, ◌%◌, ◌<◌, ◌≤◌, ℤ, pos, negsuc, ◌≤ℤ◌, List, [], ◌∷◌, ◌++◌, Bool, true, false, codes, length, length-append, map, nat_lt, refl, ap, arith, inl, inr, eq-eqb, ne_eqb}
use Rattle.std.specs.List.{AllByRecursion as Each}
use Rattle.std.proofs.lemmas.Bool.{cases_Bool}
use Rattle.std.proofs.lemmas.Bool.Decides.{nat_tests}
use Rattle.std.proofs.lemmas.Fmt.{length-decimal-le, length_signed_le}
use Rattle.std.proofs.lemmas.Int.{ints}
use Rattle.std.proofs.lemmas.List.Elements.{recursion_from_All}
use Rattle.json.specs.Print.{escape, escape_byte, quoted}
use Rattle.json.proofs.Printed.Strings.{escape_byte_plain}
use Rattle.serde_json.specs.Data.{Data, array, object, string, Members, no_members, member}
use Rattle.serde_json.specs.View.{items_of}
use Rattle.serde_json.specs.Written.{comma_if, compact_text, items_text, members_text}
use Rattle.page_model.specs.declared.colour.Rgb.{Rgb}
use Rattle.page_model.specs.declared.colour.Tint.{Tint}
use Rattle.page_model.specs.declared.witness.Kind.{Kind}
use Rattle.page_model.specs.declared.witness.Kind.TheVariants.{General, Red}
use Rattle.page_model.specs.declared.witness.Part.{Part}
use Rattle.page_model.specs.declared.witness.Witness.{Witness}
use Rattle.witness_text.specs.PartValue.{kind_text, natural, part_value, tint_value}
use Rattle.witness_text.specs.TintText.{colour_text, hex_digit, is_single, tint_text}
use Rattle.witness_text.specs.WitnessForm.{IsInForm, IsPartInForm, IsTintInForm}
use Rattle.witness_text.specs.WitnessText.{integer, value_of_first, value_of_second, witness_text, witness_value}

-- ---- strings

-- a byte is written as it is
abbrev IsPlain : ℕ → Type 0
IsPlain x = (32 ≤ x) × ((x ≡ 34 → ⊥) × (x ≡ 92 → ⊥))

plain_length : (xs : List ℕ) → Each IsPlain xs → length (escape xs) ≡ length xs
plain_length [] plain = refl
plain_length (x ∷ xs) plain =
    let one = ap length (escape_byte_plain x plain.0.1.0 plain.0.1.1 plain.0.0) in
    omega (arith, one, plain_length xs plain.1, length-append (escape_byte x) (escape xs))

ten_or_more : (d : ℕ) → nat_lt d 10 ≡ false → 10 ≤ d
ten_or_more d high = grind (arith, nat_tests)

digit_plain : (d : ℕ) → d < 16 → IsPlain (hex_digit d)
digit_plain d small = elim (cases_Bool (nat_lt d 10)) [
  | inl low ↦ rw low (omega arith, (λ e. omega arith, λ e. omega arith))
  | inr high ↦ let least = ten_or_more d high in rw high (omega arith, (λ e. omega arith, λ e. omega (arith, least)))
]

colour_plain : (c : Rgb) → c.r < 256 → c.g < 256 → c.b < 256 → Each IsPlain (colour_text c)
colour_plain c r g b = (
  digit_plain (c.r / 16) (omega arith),
  (
    digit_plain (c.r % 16) (omega arith),
    (
      digit_plain (c.g / 16) (omega arith),
      (
        digit_plain (c.g % 16) (omega arith),
        (
          digit_plain (c.b / 16) (omega arith),
          (digit_plain (c.b % 16) (omega arith), tt),
        ),
      ),
    ),
  ),
)

each_append : (P : ℕ → Type 0) (xs ys : List ℕ) → Each P xs → Each P ys → Each P (xs ++ ys)
each_append P [] ys first second = second
each_append P (x ∷ xs) ys first second = (first.0, each_append P xs ys first.1 second)

quoted_length : (s : List ℕ) → Each IsPlain s → length (quoted s) ≡ length s + 2
quoted_length s plain = omega (arith, plain_length s plain, length-append (escape s) (34 ∷ []))

tint_short : (t : Tint) → IsTintInForm t → length (compact_text (tint_value t)) ≤ 15
unfolding tint_text
tint_short t form =
    let red = form.red in
    let green = form.green in
    let blue = form.blue in
    let lower = colour_plain t.lo (omega (arith, red.ordered, red.fit)) (omega (arith, green.ordered, green.fit)) (omega (arith, blue.ordered, blue.fit)) in
    let upper = colour_plain t.hi red.fit green.fit blue.fit in
    elim (cases_Bool (is_single t)) [
      | inl one ↦ rw one (omega (arith, quoted_length (colour_text t.lo) lower))
      | inr two ↦ rw two (omega (
        arith,
        quoted_length (colour_text t.lo ++ 45 ∷ colour_text t.hi)
            (each_append IsPlain (colour_text t.lo) (45 ∷ colour_text t.hi) lower ((omega arith, (λ e. omega arith, λ e. omega arith)), upper)),
      ))
    ]

kind_short : (k : Kind) → length (quoted (kind_text k)) ≤ 9
unfolding escape_byte
kind_short General = omega arith
kind_short Red = omega arith

-- ---- numbers

natural_short : (n : ℕ) → n < 4294967296 → length (compact_text (natural n)) ≤ 10
natural_short n small = length-decimal-le 10 n (omega arith) (omega arith) (omega arith)

integer_short : (z : ℤ) → negsuc 2147483647 ≤ℤ z → z ≤ℤ pos 2147483647 → length (compact_text (integer z)) ≤ 11
integer_short (pos n) low high = let small : n ≤ 2147483647 = omega (arith, ints) in omega (arith, natural_short n (omega arith))
integer_short (negsuc n) low high =
    let small : n ≤ 2147483647 = omega (arith, ints) in length_signed_le 10 (negsuc n) (omega arith) (omega arith)

-- ---- lists and objects

comma_short : (later : Bool) → length (comma_if later) ≤ 1
comma_short true = omega arith
comma_short false = omega arith

items_short : {A : Type 0} (f : A → Data) (bound : ℕ) (xs : List A) (later : Bool) → Each (λ x. length (compact_text (f x)) ≤ bound) xs
    → length (items_text later (items_of (map f xs))) ≤ length xs * (bound + 1) + 1
items_short f bound [] later short = omega arith
items_short f bound (x ∷ xs) later short =
    let rest = items_short f bound xs true short.1 in
    omega (
      arith,
      short.0,
      rest,
      comma_short later,
      length-append (comma_if later) (compact_text (f x) ++ items_text true (items_of (map f xs))),
      length-append (compact_text (f x)) (items_text true (items_of (map f xs))),
    )

-- the bytes that members may take
abbrev room : Members → ℕ
room no_members = 1
room (member k d ms) = 2 + length (quoted k) + length (compact_text d) + room ms

members_room : (later : Bool) (ms : Members) → length (members_text later ms) ≤ room ms
members_room later no_members = omega arith
members_room later (member k d ms) =
    omega (
      arith,
      members_room true ms,
      comma_short later,
      length-append (comma_if later) (quoted k ++ 58 ∷ (compact_text d ++ members_text true ms)),
      length-append (quoted k) (58 ∷ (compact_text d ++ members_text true ms)),
      length-append (compact_text d) (members_text true ms),
    )

object_within : (ms : Members) (bound : ℕ) → 1 + room ms ≤ bound → length (compact_text (object ms)) ≤ bound
object_within ms bound within = omega (arith, members_room false ms, within)

-- ---- a part, and a witness

each_short : {A : Type 0} (f : A → Data) (bound : ℕ) (P : A → Type 0) (xs : List A) → ((x : A) → P x → length (compact_text (f x)) ≤ bound) → Each P xs
    → Each (λ x. length (compact_text (f x)) ≤ bound) xs
each_short f bound P [] short each = tt
each_short f bound P (x ∷ xs) short each = (short x each.0, each_short f bound P xs short each.1)

part_members : Part → Members
part_members p =
    member (codes "frames") (array (items_of (map natural p.frames)))
    (member (codes "height") (natural p.height)
    (member (codes "kind") (string (kind_text p.kind))
    (member (codes "tints") (array (items_of (map tint_value p.tints)))
    (member (codes "width") (natural p.width)
    (member (codes "x") (natural p.x)
    (member (codes "y") (natural p.y)
    no_members))))))

members_by : (Members → Members) → ℕ → Witness → Members
members_by and_before version w =
    member (codes "area") (natural w.area)
    (member (codes "height") (natural w.height)
    (member (codes "parts") (array (items_of (map part_value w.parts)))
    (and_before
    (member (codes "rate") (natural w.rate)
    (member (codes "start") (natural w.start)
    (member (codes "verdict") (string (codes "fail"))
    (member (codes "version") (natural version)
    (member (codes "width") (natural w.width)
    (member (codes "x") (integer w.x)
    (member (codes "y") (integer w.y)
    no_members))))))))))

members_of_first : Witness → Members
members_of_first w = members_by (λ rest. rest) 1 w

members_of_second : Witness → Members
members_of_second w = members_by (λ rest. member (codes "per") (natural w.per) rest) 2 w

part_short : (p : Part) → IsPartInForm p → length (compact_text (part_value p)) ≤ 400
unfolding part_value part_members escape_byte
part_short p form =
    let frames = items_short natural 10 p.frames false (each_short natural 10 (λ k. k < 4294967296) p.frames natural_short (recursion_from_All (λ k. k < 4294967296) p.frames form.frames)) in
    let tints = items_short tint_value 15 p.tints false (each_short tint_value 15 IsTintInForm p.tints tint_short (recursion_from_All IsTintInForm p.tints form.tints)) in
    let kind = kind_short p.kind in
    let x = natural_short p.x (omega (arith, form.x)) in
    let y = natural_short p.y (omega (arith, form.y)) in
    let width = natural_short p.width (omega (arith, form.width)) in
    let height = natural_short p.height (omega (arith, form.height)) in
    object_within (part_members p) 400 (omega (arith, frames, tints, kind, x, y, width, height, form.turns.frames, form.turns.tints))

first_short : (w : Witness) → IsInForm w → length w.parts ≤ 87296 → length (compact_text (value_of_first w)) < 67108864
unfolding value_of_first members_of_first members_by escape_byte
first_short w form few =
    let parts = items_short part_value 400 w.parts false (each_short part_value 400 IsPartInForm w.parts part_short (recursion_from_All IsPartInForm w.parts form.parts)) in
    let area = natural_short w.area (omega (arith, form.area)) in
    let start = natural_short w.start (omega (arith, form.start)) in
    let width = natural_short w.width (omega (arith, form.width)) in
    let height = natural_short w.height (omega (arith, form.height)) in
    let rate = natural_short w.rate (omega (arith, form.rate)) in
    let one = natural_short 1 (omega arith) in
    let x = integer_short w.x form.x_least form.x_greatest in
    let y = integer_short w.y form.y_least form.y_greatest in
    let whole = object_within (members_of_first w) 67108863 (omega (arith, parts, few, area, start, width, height, rate, one, x, y)) in
    omega (arith, whole)

second_short : (w : Witness) → IsInForm w → w.per ≡ 1001 → length w.parts ≤ 87296 → length (compact_text (value_of_second w)) < 67108864
unfolding value_of_second members_of_second members_by escape_byte
second_short w form over few =
    let parts = items_short part_value 400 w.parts false (each_short part_value 400 IsPartInForm w.parts part_short (recursion_from_All IsPartInForm w.parts form.parts)) in
    let area = natural_short w.area (omega (arith, form.area)) in
    let start = natural_short w.start (omega (arith, form.start)) in
    let width = natural_short w.width (omega (arith, form.width)) in
    let height = natural_short w.height (omega (arith, form.height)) in
    let rate = natural_short w.rate (omega (arith, form.rate)) in
    let per = natural_short w.per (omega arith) in
    let two = natural_short 2 (omega arith) in
    let x = integer_short w.x form.x_least form.x_greatest in
    let y = integer_short w.y form.y_least form.y_greatest in
    let whole = object_within (members_of_second w) 67108863 (omega (arith, parts, few, area, start, width, height, rate, per, two, x, y)) in
    omega (arith, whole)

pub witness_short : (w : Witness) → IsInForm w → length w.parts ≤ 87296 → length (witness_text w) < 67108864
unfolding witness_text witness_value
witness_short w form few =
    elim form.told [
      | inl first ↦ rw (eq-eqb w.per 1 first.0) (first_short w form few)
      | inr second ↦ rw (ne_eqb w.per 1 (omega arith)) (second_short w form second few)
    ]
