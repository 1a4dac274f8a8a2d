-- What a look finds: in the object of a witness in form that witness, and anywhere a witness in form.
use Rattle.std.proofs.Common.{◌≡◌, int_le, nat_lt, ◌^◌, ◌++◌, ℕ, ◌+◌, ◌*◌, ◌/◌, ◌%◌, ◌<◌, ◌≤◌, max, Bool, true, false, ℤ, pos, negsuc, ◌≤ℤ◌, List, [], ◌∷◌, All, map, length, Option, Some, refl, ap, sym, ◌∙◌, inl, inr, arith, eq-eqb}
use Rattle.std.proofs.lemmas.Bool.Decides.{nat_tests}
use Rattle.std.proofs.lemmas.Int.{ints}
use Rattle.std.proofs.lemmas.List.Elements.{All-nil, All-cons, All-head, All-tail}
use Rattle.serde_json.specs.Data.{Data, array, string}
use Rattle.serde_json.specs.View.{items_of}
use Rattle.page_model.specs.declared.colour.Rgb.{Rgb}
use Rattle.page_model.specs.declared.colour.Tint.{Tint}
use Rattle.page_model.specs.declared.witness.Kind.{Kind}
use Rattle.page_model.specs.declared.witness.Kind.TheVariants.{General, Red}
use Rattle.page_model.specs.declared.witness.Part.{Part}
use Rattle.page_model.specs.declared.witness.Witness.{Witness}
use Rattle.witness_text.specs.TintText.{hex_digit, colour_text, is_single, tint_text}
use Rattle.witness_text.specs.PartValue.{natural, tint_value, kind_text, part_value}
use Rattle.witness_text.specs.WitnessText.{integer, value_of_first, value_of_second, witness_value}
use Rattle.witness_text.specs.WitnessForm.{short_limit, word_limit, IsTintInForm, IsPartInForm, IsInForm}
use Rattle.witness_text.specs.Look.{natural_in, below, short_in, word_in, integer_in, signed, signed_in, per_in, rate_in, text_in, kind_in, digit_value, channel_at, colour_at, above, tint_at, tint_in, list_of, list_in, nine_of, part_in, witness_in}

pub list_of_items : (ds : List Data) → list_of (items_of ds) ≡ ds
list_of_items [] = refl
list_of_items (d ∷ ds) = ap (λ rest. d ∷ rest) (list_of_items ds)

-- ---- numbers

below-same : (limit n : ℕ) → n < limit → below limit n ≡ n
below-same limit n less = grind (arith, nat_tests)

short-again : (n : ℕ) → n < short_limit → short_in (Some (natural n)) ≡ n
unfolding short_in natural_in
short-again n less = below-same short_limit n less

word-again : (n : ℕ) → n < word_limit → word_in (Some (natural n)) ≡ n
unfolding word_in natural_in
word-again n less = below-same word_limit n less

-- ---- digits

digit-again : (d : ℕ) → d < 16 → digit_value (hex_digit d) ≡ d
digit-again d less = grind (arith, nat_tests)

digit-small : (b : ℕ) → digit_value b < 16
digit-small b = grind (arith, nat_tests)

channel-again : (n : ℕ) → n < 256 → 16 * digit_value (hex_digit (n / 16)) + digit_value (hex_digit (n % 16)) ≡ n
channel-again n less =
    let upper : n / 16 < 16 = omega arith in
    let lower : n % 16 < 16 = omega arith in
    rw (digit-again (n / 16) upper, digit-again (n % 16) lower) (omega arith)

colour-again : (c : Rgb) (rest : List ℕ) → c.r < 256 → c.g < 256 → c.b < 256 → colour_at (colour_text c ++ rest) 0 ≡ c
unfolding colour_at channel_at
colour-again c rest r g b =
    let red = channel-again c.r r in
    let green = channel-again c.g g in
    let blue = channel-again c.b b in
    λ i. record { r = red i; g = green i; b = blue i }

-- the second colour
upper-again : (a c : Rgb) → c.r < 256 → c.g < 256 → c.b < 256 → colour_at (colour_text a ++ 45 ∷ colour_text c) 7 ≡ c
unfolding colour_at channel_at
upper-again a c r g b =
    let red = channel-again c.r r in
    let green = channel-again c.g g in
    let blue = channel-again c.b b in
    λ i. record { r = red i; g = green i; b = blue i }

above-greater : (a c : Rgb) → a.r ≤ c.r → a.g ≤ c.g → a.b ≤ c.b → above a c ≡ c
above-greater a c r g b =
    let red : max a.r c.r ≡ c.r = omega arith in
    let green : max a.g c.g ≡ c.g = omega arith in
    let blue : max a.b c.b ≡ c.b = omega arith in
    λ i. record { r = red i; g = green i; b = blue i }

-- the two colours of a tint that is spelled by one
single-same : (t : Tint) → is_single t ≡ true → t.lo ≡ t.hi
single-same t is =
    let red : t.lo.r ≡ t.hi.r = grind (arith, nat_tests, is) in
    let green : t.lo.g ≡ t.hi.g = grind (arith, nat_tests, is) in
    let blue : t.lo.b ≡ t.hi.b = grind (arith, nat_tests, is) in
    λ i. record { r = red i; g = green i; b = blue i }

text-again : (t : Tint) (b : Bool) → is_single t ≡ b → IsTintInForm t → tint_at (tint_text t) ≡ t
unfolding tint_at tint_text
text-again t true is form =
    let fits_r : t.lo.r < 256 = omega (arith, form.red.ordered, form.red.fit) in
    let fits_g : t.lo.g < 256 = omega (arith, form.green.ordered, form.green.fit) in
    let fits_b : t.lo.b < 256 = omega (arith, form.blue.ordered, form.blue.fit) in
    let lower = colour-again t.lo [] fits_r fits_g fits_b in
    let same = above-greater t.lo t.lo (omega arith) (omega arith) (omega arith) in
    let upper = same ∙ single-same t is in
    rw (is, lower) (λ i. record { lo = t.lo; hi = upper i })
text-again t false is form =
    let fits_r : t.lo.r < 256 = omega (arith, form.red.ordered, form.red.fit) in
    let fits_g : t.lo.g < 256 = omega (arith, form.green.ordered, form.green.fit) in
    let fits_b : t.lo.b < 256 = omega (arith, form.blue.ordered, form.blue.fit) in
    let lower = colour-again t.lo (45 ∷ colour_text t.hi) fits_r fits_g fits_b in
    let upper = upper-again t.lo t.hi form.red.fit form.green.fit form.blue.fit in
    let same = above-greater t.lo t.hi form.red.ordered form.green.ordered form.blue.ordered in
    rw (is, lower, upper) (λ i. record { lo = t.lo; hi = same i })

pub tint-again : (t : Tint) → IsTintInForm t → tint_in (Some (tint_value t)) ≡ t
unfolding tint_in text_in
tint-again t form = text-again t (is_single t) refl form

kind-again : (k : Kind) → kind_in (Some (string (kind_text k))) ≡ k
unfolding kind_in text_in
kind-again General = refl
kind-again Red = refl

at_most : (a b : ℤ) → a ≤ℤ b → int_le a b ≡ true
at_most a b h = grind (arith, ints)

signed-same : (z : ℤ) → negsuc 2147483647 ≤ℤ z → z ≤ℤ pos 2147483647 → signed z ≡ z
signed-same z least greatest = rw (at_most (negsuc 2147483647) z least, at_most z (pos 2147483647) greatest) refl

integer-again : (z : ℤ) → z ≤ℤ pos 2147483647 → integer_in (Some (integer z)) ≡ z
unfolding integer_in
integer-again (pos n) greatest =
    let less : n < 2 ^ 63 = omega (arith, ints) in
    let tells : nat_lt n (2 ^ 63) ≡ true = grind (arith, nat_tests) in
    rw tells refl
integer-again (negsuc n) greatest = refl

signed-again : (z : ℤ) → negsuc 2147483647 ≤ℤ z → z ≤ℤ pos 2147483647 → signed_in (Some (integer z)) ≡ z
unfolding signed_in
signed-again z least greatest = ap signed (integer-again z greatest) ∙ signed-same z least greatest

-- ---- arrays

-- the nine values of an array of nine
nine-again : (A : Type 0) (f : A → Data) (g : Option Data → A) (xs : List A) → length xs ≡ 9 → All (λ x. g (Some (f x)) ≡ x) xs → nine_of g (Some (array (items_of (map f xs)))) ≡ xs
nine-again A f g (a ∷ b ∷ c ∷ d ∷ e ∷ h ∷ k ∷ l ∷ m ∷ []) is all =
    let P : A → Type 0 = λ x. g (Some (f x)) ≡ x in
    let s1 = All-tail P a (b ∷ c ∷ d ∷ e ∷ h ∷ k ∷ l ∷ m ∷ []) all in
    let s2 = All-tail P b (c ∷ d ∷ e ∷ h ∷ k ∷ l ∷ m ∷ []) s1 in
    let s3 = All-tail P c (d ∷ e ∷ h ∷ k ∷ l ∷ m ∷ []) s2 in
    let s4 = All-tail P d (e ∷ h ∷ k ∷ l ∷ m ∷ []) s3 in
    let s5 = All-tail P e (h ∷ k ∷ l ∷ m ∷ []) s4 in
    let s6 = All-tail P h (k ∷ l ∷ m ∷ []) s5 in
    let s7 = All-tail P k (l ∷ m ∷ []) s6 in
    let s8 = All-tail P l (m ∷ []) s7 in
    rw (All-head P a (b ∷ c ∷ d ∷ e ∷ h ∷ k ∷ l ∷ m ∷ []) all, All-head P b (c ∷ d ∷ e ∷ h ∷ k ∷ l ∷ m ∷ []) s1, All-head P c (d ∷ e ∷ h ∷ k ∷ l ∷ m ∷ []) s2, All-head P d (e ∷ h ∷ k ∷ l ∷ m ∷ []) s3, All-head P e (h ∷ k ∷ l ∷ m ∷ []) s4, All-head P h (k ∷ l ∷ m ∷ []) s5, All-head P k (l ∷ m ∷ []) s6, All-head P l (m ∷ []) s7, All-head P m [] s8) refl
nine-again A f g [] is all = absurd (omega (arith, is))
nine-again A f g (a ∷ []) is all = absurd (omega (arith, is))
nine-again A f g (a ∷ b ∷ []) is all = absurd (omega (arith, is))
nine-again A f g (a ∷ b ∷ c ∷ []) is all = absurd (omega (arith, is))
nine-again A f g (a ∷ b ∷ c ∷ d ∷ []) is all = absurd (omega (arith, is))
nine-again A f g (a ∷ b ∷ c ∷ d ∷ e ∷ []) is all = absurd (omega (arith, is))
nine-again A f g (a ∷ b ∷ c ∷ d ∷ e ∷ h ∷ []) is all = absurd (omega (arith, is))
nine-again A f g (a ∷ b ∷ c ∷ d ∷ e ∷ h ∷ k ∷ []) is all = absurd (omega (arith, is))
nine-again A f g (a ∷ b ∷ c ∷ d ∷ e ∷ h ∷ k ∷ l ∷ []) is all = absurd (omega (arith, is))
nine-again A f g (a ∷ b ∷ c ∷ d ∷ e ∷ h ∷ k ∷ l ∷ m ∷ n ∷ rest) is all = absurd (omega (arith, is))

all-by : {A : Type 0} (P Q : A → Type 0) → ((x : A) → P x → Q x) → (xs : List A) → All P xs → All Q xs
all-by P Q step [] all = All-nil Q
all-by P Q step (x ∷ xs) all = All-cons Q x xs (step x (All-head P x xs all)) (all-by P Q step xs (All-tail P x xs all))

map-again : {A B : Type 0} (f : A → B) (g : B → A) (xs : List A) → All (λ x. g (f x) ≡ x) xs → map g (map f xs) ≡ xs
map-again f g [] all = refl
map-again f g (x ∷ xs) all =
    rw (All-head (λ x. g (f x) ≡ x) x xs all, map-again f g xs (All-tail (λ x. g (f x) ≡ x) x xs all)) refl

-- ---- objects

part-again : (p : Part) → IsPartInForm p → part_in (part_value p) ≡ p
unfolding part_in part_value
part-again p form =
    let x = short-again p.x form.x in
    let y = short-again p.y form.y in
    let width = short-again p.width form.width in
    let height = short-again p.height form.height in
    let kind = kind-again p.kind in
    let frames = nine-again ℕ natural word_in p.frames form.turns.frames (all-by (λ k. k < word_limit) (λ k. word_in (Some (natural k)) ≡ k) word-again p.frames form.frames) in
    let tints = nine-again Tint tint_value tint_in p.tints form.turns.tints (all-by IsTintInForm (λ t. tint_in (Some (tint_value t)) ≡ t) tint-again p.tints form.tints) in
    λ i. record { x = x i; y = y i; width = width i; height = height i; kind = kind i; frames = frames i; tints = tints i }

parts-again : (parts : List Part) → All IsPartInForm parts → map part_in (list_in (Some (array (items_of (map part_value parts))))) ≡ parts
unfolding list_in
parts-again parts form =
    ap (map part_in) (list_of_items (map part_value parts))
    ∙ map-again part_value part_in parts (all-by IsPartInForm (λ p. part_in (part_value p) ≡ p) part-again parts form)

-- of the first version
first-again : (w : Witness) → IsInForm w → w.per ≡ 1 → w.rate < short_limit → witness_in (value_of_first w) ≡ w
unfolding witness_in value_of_first per_in rate_in natural_in
first-again w form is few =
    let width = short-again w.width form.width in
    let height = short-again w.height form.height in
    let rate = short-again w.rate few in
    let per = sym is in
    let start = word-again w.start form.start in
    let x = signed-again w.x form.x_least form.x_greatest in
    let y = signed-again w.y form.y_least form.y_greatest in
    let area = word-again w.area form.area in
    let parts = parts-again w.parts form.parts in
    λ i. record { width = width i; height = height i; rate = rate i; per = per i; start = start i; x = x i; y = y i; area = area i; parts = parts i }

-- of the second
over-again : (per : ℕ) → per ≡ 1001 → per_in (Some (natural per)) ≡ per
unfolding per_in natural_in
over-again per is = rw is refl

over-rate : (per n : ℕ) → per ≡ 1001 → n < word_limit → rate_in (per_in (Some (natural per))) (Some (natural n)) ≡ n
unfolding per_in rate_in natural_in
over-rate per n is less = rw is (word-again n less)

second-again : (w : Witness) → IsInForm w → w.per ≡ 1001 → witness_in (value_of_second w) ≡ w
unfolding witness_in value_of_second
second-again w form is =
    let width = short-again w.width form.width in
    let height = short-again w.height form.height in
    let rate = over-rate w.per w.rate is form.rate in
    let per = over-again w.per is in
    let start = word-again w.start form.start in
    let x = signed-again w.x form.x_least form.x_greatest in
    let y = signed-again w.y form.y_least form.y_greatest in
    let area = word-again w.area form.area in
    let parts = parts-again w.parts form.parts in
    λ i. record { width = width i; height = height i; rate = rate i; per = per i; start = start i; x = x i; y = y i; area = area i; parts = parts i }

first-value : (w : Witness) → w.per ≡ 1 → witness_value w ≡ value_of_first w
unfolding witness_value
first-value w is = rw (eq-eqb w.per 1 is) refl

second-value : (w : Witness) → w.per ≡ 1001 → witness_value w ≡ value_of_second w
unfolding witness_value
second-value w is = rw is refl

pub witness-again : (w : Witness) → IsInForm w → witness_in (witness_value w) ≡ w
witness-again w form =
    elim form.told [
      | inl first ↦ ap witness_in (first-value w first.0) ∙ first-again w form first.0 first.1
      | inr second ↦ ap witness_in (second-value w second) ∙ second-again w form second
    ]
