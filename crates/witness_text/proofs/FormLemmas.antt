-- Whatever is looked at, what is found is in form.
use Rattle.std.proofs.Common.{◌≡◌, ◌==◌, codes, length, nat_lt, ℕ, ◌+◌, ◌<◌, max, true, ℤ, pos, negsuc, ◌≤ℤ◌, int_le, List, [], ◌∷◌, All, map, Option, refl, arith, inl, inr}
use Rattle.std.proofs.lemmas.Bool.{cases_Bool}
use Rattle.std.proofs.lemmas.Bool.Decides.{nat_tests}
use Rattle.std.proofs.lemmas.Int.{ints}
use Rattle.std.proofs.lemmas.List.Elements.{All-nil, All-cons}
use Rattle.serde_json.specs.Data.{Data}
use Rattle.serde_json.specs.Find.{get}
use Rattle.page_model.specs.declared.colour.Tint.{Tint}
use Rattle.witness_text.specs.WitnessForm.{short_limit, word_limit, AreOrderedBytes, IsTintInForm, IsPartInForm, IsToldRate, IsInForm}
use Rattle.witness_text.specs.Look.{natural_in, below, short_in, word_in, integer_in, signed, signed_in, per_in, rate_in, byte_at, digit_value, channel_at, colour_at, tint_at, text_in, tint_in, item_in, nine_of, part_in, list_in, witness_in}

below-fits : (limit n : ℕ) → 0 < limit → below limit n < limit
below-fits limit n some = grind (arith, nat_tests)

short-fits : (o : Option Data) → short_in o < short_limit
unfolding short_in
short-fits o = below-fits short_limit (natural_in o) (omega arith)

word-fits : (o : Option Data) → word_in o < word_limit
unfolding word_in
word-fits o = below-fits word_limit (natural_in o) (omega arith)

is_at_most : (a b : ℤ) → int_le a b ≡ true → a ≤ℤ b
is_at_most a b h = grind (arith, ints)

signed-fits : (z : ℤ) → (negsuc 2147483647 ≤ℤ signed z) × (signed z ≤ℤ pos 2147483647)
signed-fits z = elim (cases_Bool (int_le (negsuc 2147483647) z)) [
  | inl least ↦ elim (cases_Bool (int_le z (pos 2147483647))) [
    | inl greatest ↦ rw (least, greatest) (is_at_most (negsuc 2147483647) z least, is_at_most z (pos 2147483647) greatest)
    | inr past ↦ rw (least, past) (omega (arith, ints), omega (arith, ints))
  ]
  | inr past ↦ rw past (omega (arith, ints), omega (arith, ints))
]

signed_in-fits : (o : Option Data) → (negsuc 2147483647 ≤ℤ signed_in o) × (signed_in o ≤ℤ pos 2147483647)
unfolding signed_in
signed_in-fits o = signed-fits (integer_in o)

digit-small : (b : ℕ) → digit_value b < 16
digit-small b = grind (arith, nat_tests)

channel-fits : (bytes : List ℕ) (i : ℕ) → channel_at bytes i < 256
unfolding channel_at
channel-fits bytes i = omega (arith, digit-small (byte_at bytes i), digit-small (byte_at bytes (i + 1)))

greater-ordered : (a b : ℕ) → a < 256 → b < 256 → AreOrderedBytes a (max a b)
greater-ordered a b first second = record { ordered = omega arith; fit = omega arith }

two-ordered : (bytes : List ℕ) (i j : ℕ) → AreOrderedBytes (channel_at bytes i) (max (channel_at bytes i) (channel_at bytes j))
two-ordered bytes i j = greater-ordered _ _ (channel-fits bytes i) (channel-fits bytes j)

tint-form : (bytes : List ℕ) → IsTintInForm (tint_at bytes)
unfolding tint_at colour_at
tint-form bytes = elim (cases_Bool (nat_lt 6 (length bytes))) [
  | inl two ↦ rw two (record { red = two-ordered bytes 0 7; green = two-ordered bytes 2 9; blue = two-ordered bytes 4 11 })
  | inr one ↦ rw one (record { red = two-ordered bytes 0 0; green = two-ordered bytes 2 2; blue = two-ordered bytes 4 4 })
]

tint_in-form : (o : Option Data) → IsTintInForm (tint_in o)
unfolding tint_in
tint_in-form o = tint-form (text_in o)

four_more : (A : Type 0) (P : A → Type 0) (a b c d : A) (rest : List A) → P a → P b → P c → P d → All P rest → All P (a ∷ b ∷ c ∷ d ∷ rest)
four_more A P a b c d rest first second third fourth all =
    All-cons P a (b ∷ c ∷ d ∷ rest) first (All-cons P b (c ∷ d ∷ rest) second (All-cons P c (d ∷ rest) third (All-cons P d rest fourth all)))

nine-all : (A : Type 0) (P : A → Type 0) (f : Option Data → A) (o : Option Data) → ((o : Option Data) → P (f o)) → All P (nine_of f o)
nine-all A P f o all =
    let s8 = All-cons P (f (item_in o 8)) [] (all (item_in o 8)) (All-nil P) in
    let s7 = All-cons P (f (item_in o 7)) (f (item_in o 8) ∷ []) (all (item_in o 7)) s8 in
    let s6 = All-cons P (f (item_in o 6)) (f (item_in o 7) ∷ f (item_in o 8) ∷ []) (all (item_in o 6)) s7 in
    let s5 = All-cons P (f (item_in o 5)) (f (item_in o 6) ∷ f (item_in o 7) ∷ f (item_in o 8) ∷ []) (all (item_in o 5)) s6 in
    let s4 = All-cons P (f (item_in o 4)) (f (item_in o 5) ∷ f (item_in o 6) ∷ f (item_in o 7) ∷ f (item_in o 8) ∷ []) (all (item_in o 4)) s5 in
    four_more A P (f (item_in o 0)) (f (item_in o 1)) (f (item_in o 2)) (f (item_in o 3)) (f (item_in o 4) ∷ f (item_in o 5) ∷ f (item_in o 6) ∷ f (item_in o 7) ∷ f (item_in o 8) ∷ [])
    (all (item_in o 0)) (all (item_in o 1)) (all (item_in o 2)) (all (item_in o 3)) s4

part-form : (d : Data) → IsPartInForm (part_in d)
unfolding part_in
part-form d = record {
  x = short-fits (get (codes "x") d);
  y = short-fits (get (codes "y") d);
  width = short-fits (get (codes "width") d);
  height = short-fits (get (codes "height") d);
  turns = record { frames = refl; tints = refl };
  frames = nine-all ℕ (λ k. k < word_limit) word_in (get (codes "frames") d) word-fits;
  tints = nine-all Tint IsTintInForm tint_in (get (codes "tints") d) tint_in-form;
}

all-parts : (ds : List Data) → All IsPartInForm (map part_in ds)
all-parts [] = All-nil IsPartInForm
all-parts (d ∷ ds) = All-cons IsPartInForm (part_in d) (map part_in ds) (part-form d) (all-parts ds)

-- the rate is one that a version tells
rate-fits : (per : ℕ) (o : Option Data) → rate_in per o < word_limit
unfolding rate_in
rate-fits per o = elim (cases_Bool (per == 1)) [
  | inl whole ↦ rw whole (omega (arith, short-fits o))
  | inr over ↦ rw over (word-fits o)
]

told-rate : (p o : Option Data) → IsToldRate (rate_in (per_in p) o) (per_in p)
unfolding rate_in per_in
told-rate p o = elim (cases_Bool (natural_in p == 1001)) [
  | inl over ↦ rw over (inr refl)
  | inr whole ↦ rw whole (inl (refl, short-fits o))
]

pub told-found : (rate per : ℕ) (p o : Option Data) → per ≡ per_in p → rate ≡ rate_in per o → IsToldRate rate per
told-found rate per p o e f =
    let same : rate ≡ rate_in (per_in p) o = cc in
    rw (same, e) (told-rate p o)

pub witness-form : (d : Data) → IsInForm (witness_in d)
unfolding witness_in
witness-form d = record {
  width = short-fits (get (codes "width") d);
  height = short-fits (get (codes "height") d);
  rate = rate-fits (per_in (get (codes "per") d)) (get (codes "rate") d);
  told = told-rate (get (codes "per") d) (get (codes "rate") d);
  start = word-fits (get (codes "start") d);
  area = word-fits (get (codes "area") d);
  x_least = (signed_in-fits (get (codes "x") d)).0;
  x_greatest = (signed_in-fits (get (codes "x") d)).1;
  y_least = (signed_in-fits (get (codes "y") d)).0;
  y_greatest = (signed_in-fits (get (codes "y") d)).1;
  parts = all-parts (list_in (get (codes "parts") d));
}
