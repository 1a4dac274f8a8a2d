-- Colours that are given have channels from 0 to 255, and an alpha from 0 to 255,000.
use Rattle.std.proofs.Common.{ℕ, ◌≡◌, ◌≤◌, ◌+◌, ◌*◌, ◌==◌, Bool, true, false, List, [], ◌∷◌, Option, Some, None, Ok, cond, length, min, refl, ap, subst, arith, nat_lt, option_and_then}
use Rattle.std.specs.Char.{digit_value}
use Rattle.std.proofs.lemmas.Bool.Decides.{nat_tests}
use Rattle.page_model.specs.declared.colour.Rgba.{Rgba}
use Rattle.page_model.specs.ValidScene.{IsColour}
use Rattle.css_words.specs.Keywords.{lookup}
use Rattle.css_colours.specs.ColourNames.{colour, unseen, colour_names}
use Rattle.css_words.specs.Words.{Word, lone, when_hash, when_ident, behind, is_comma, is_close, or_else, ended}
use Rattle.css_colours.specs.Colours.{pair, channels, hash_colour, channel_at, channel_and_comma, opening_at, alpha_at, rgb_of, colour_of}
use Rattle.css_words.specs.Numerals.{whole_at, share_at}
use Rattle.css_words.proofs.GivenLemmas.{bad_ok}
use Rattle.css_words.proofs.ShareLemmas.{share_at_is}
use Rattle.css_words.proofs.TableLemmas.{Entries, lookup_is}

and_then_is : {A B : Type 0} (P : B → Type 0) (f : A → Option B) (o : Option A) → ((a : A) → o ≡ Some a → (b : B) → f a ≡ Some b → P b) → (b : B) → option_and_then f o ≡ Some b → P b
and_then_is P f (Some a) holds b e = holds a refl b e
and_then_is P f None holds b e = absurd (cc)

either_is : {A : Type 0} (P : A → Type 0) (b : Bool) (p q : Option A) → ((x : A) → b ≡ true → p ≡ Some x → P x) → ((x : A) → q ≡ Some x → P x) → (x : A) → cond b p q ≡ Some x → P x
either_is P true p q first second x e = first x refl e
either_is P false p q first second x e = second x e

both_digits : (h l y : ℕ) → nat_lt h 16 ≡ true → nat_lt l 16 ≡ true → 16 * h + l ≡ y → y ≤ 255
both_digits h l y is_h is_l is = grind (arith, nat_tests)

pair_is : (high low n : ℕ) → pair high low ≡ Some n → n ≤ 255
unfolding pair
pair_is high low n e =
    either_is (λ x. x ≤ 255) (nat_lt (digit_value high) 16) _ None
    (λ x is_high f. either_is (λ y. y ≤ 255) (nat_lt (digit_value low) 16) (Some (16 * digit_value high + digit_value low)) None
    (λ y is_low same. let is : 16 * digit_value high + digit_value low ≡ y = cc in both_digits (digit_value high) (digit_value low) y is_high is_low is)
    (λ y bad. absurd (cc)) x f)
    (λ x bad. absurd (cc)) n e

channels_are : (r g b a : Option ℕ) → ((n : ℕ) → r ≡ Some n → n ≤ 255) → ((n : ℕ) → g ≡ Some n → n ≤ 255) → ((n : ℕ) → b ≡ Some n → n ≤ 255)
    → ((n : ℕ) → a ≡ Some n → n ≤ 255) → (c : Rgba) → channels r g b a ≡ Some c → IsColour c
unfolding channels
channels_are None g b a h i j k c e = absurd (cc)
channels_are (Some r) None b a h i j k c e = absurd (cc)
channels_are (Some r) (Some g) None a h i j k c e = absurd (cc)
channels_are (Some r) (Some g) (Some b) None h i j k c e = absurd (cc)
channels_are (Some r) (Some g) (Some b) (Some a) h i j k c e =
    let same : ◌≡◌ {A = Rgba} (record { r = r; g = g; b = b; a = 1000 * a }) c = cc in
    let few = k a refl in
    subst IsColour same (record { red = h r refl; green = i g refl; blue = j b refl; alpha = omega arith })

full_is : (n : ℕ) → Some 255 ≡ Some n → n ≤ 255
full_is n e = let same : 255 ≡ n = cc in omega arith

hash_is : (bytes : List ℕ) (c : Rgba) → hash_colour bytes ≡ Some c → IsColour c
unfolding hash_colour
hash_is bytes c e =
    either_is IsColour (length bytes == 4) _ _ (λ x is f. channels_are _ _ _ _ (pair_is _ _) (pair_is _ _) (pair_is _ _) full_is x f)
    (λ x f. either_is IsColour (length bytes == 5) _ _ (λ y is g. channels_are _ _ _ _ (pair_is _ _) (pair_is _ _) (pair_is _ _) (pair_is _ _) y g)
    (λ y g. either_is IsColour (length bytes == 7) _ _ (λ z is h. channels_are _ _ _ _ (pair_is _ _) (pair_is _ _) (pair_is _ _) full_is z h)
    (λ z h. either_is IsColour (length bytes == 9) _ None (λ u is i. channels_are _ _ _ _ (pair_is _ _) (pair_is _ _) (pair_is _ _) (pair_is _ _) u i)
    (λ u bad. absurd (cc)) z h) y g) x f)
    c e

a_colour : (r g b : ℕ) → r ≤ 255 → g ≤ 255 → b ≤ 255 → IsColour (colour r g b)
a_colour r g b h i j = record { red = h; green = i; blue = j; alpha = omega arith }

is_unseen : IsColour unseen
is_unseen = record { red = omega arith; green = omega arith; blue = omega arith; alpha = omega arith }

named_are : Entries IsColour colour_names
unfolding colour_names
named_are = (a_colour 0 255 255 (omega arith) (omega arith) (omega arith), (a_colour 0 0 0 (omega arith) (omega arith) (omega arith), (a_colour 0 0 255 (omega arith) (omega arith) (omega arith), (a_colour 255 0 255 (omega arith) (omega arith) (omega arith), (a_colour 128 128 128 (omega arith) (omega arith) (omega arith), (a_colour 0 128 0 (omega arith) (omega arith) (omega arith), (a_colour 0 255 0 (omega arith) (omega arith) (omega arith), (a_colour 128 0 0 (omega arith) (omega arith) (omega arith), (a_colour 0 0 128 (omega arith) (omega arith) (omega arith), (a_colour 128 128 0 (omega arith) (omega arith) (omega arith), (a_colour 255 165 0 (omega arith) (omega arith) (omega arith), (a_colour 128 0 128 (omega arith) (omega arith) (omega arith), (a_colour 255 0 0 (omega arith) (omega arith) (omega arith), (a_colour 192 192 192 (omega arith) (omega arith) (omega arith), (a_colour 0 128 128 (omega arith) (omega arith) (omega arith), (is_unseen, (a_colour 255 255 255 (omega arith) (omega arith) (omega arith), (a_colour 255 255 0 (omega arith) (omega arith) (omega arith), tt))))))))))))))))))

same_some : (x y : ℕ × List Word) → ◌≡◌ {A = Option (ℕ × List Word)} (Some x) (Some y) → x ≡ y
same_some x y h = cc

channel_is : (words : List Word) (f : ℕ × List Word) → channel_at words ≡ Some f → f.0 ≤ 255
unfolding channel_at
channel_is words f e =
    and_then_is (λ (x : ℕ × List Word). x.0 ≤ 255) (λ (w : ℕ × List Word). Some (min w.0 255, w.1)) (whole_at words)
    (λ a is b same. let first : min a.0 255 ≡ b.0 = ap (λ (p : ℕ × List Word). p.0) (same_some (min a.0 255, a.1) b same) in omega (arith, first)) f e

channel_and_comma_is : (words : List Word) (f : ℕ × List Word) → channel_and_comma words ≡ Some f → f.0 ≤ 255
unfolding channel_and_comma
channel_and_comma_is words f e =
    and_then_is (λ (x : ℕ × List Word). x.0 ≤ 255) _ (channel_at words)
    (λ a is b g. and_then_is (λ (x : ℕ × List Word). x.0 ≤ 255) (λ (rest : List Word). Some (a.0, rest)) (behind is_comma a.1)
    (λ rest there c same.
    let first : a.0 ≡ c.0 = ap (λ (p : ℕ × List Word). p.0) (same_some (a.0, rest) c same) in
    let few = channel_is words a is in
    omega (arith, first)) b g)
    f e

ended_is : {A : Type 0} (P : A → Type 0) (value : A) (words : List Word) → P value → (x : A) → ended value words ≡ Some x → P x
ended_is P value [] good x e = let same : value ≡ x = cc in subst P same good
ended_is P value (w ∷ words) good x e = absurd (cc)

alpha_is : (words : List Word) (f : ℕ × List Word) → alpha_at words ≡ Some f → f.0 ≤ 1000
unfolding alpha_at
alpha_is words f e = by (behind is_comma words) e where
  by : (o : Option (List Word)) → elim o [ None ↦ Some (1000, words) | Some rest ↦ share_at rest ] ≡ Some f → f.0 ≤ 1000
  by None e = let first : 1000 ≡ f.0 = ap (λ (p : ℕ × List Word). p.0) (same_some (1000, words) f e) in omega (arith, first)
  by (Some rest) e = share_at_is rest f e

rgb_is : (words : List Word) (c : Rgba) → rgb_of words ≡ Some c → IsColour c
unfolding rgb_of
rgb_is words c e =
    and_then_is IsColour _ (opening_at words) (λ inside is_inside x f.
    and_then_is IsColour _ (channel_and_comma inside) (λ r is_r y g.
    and_then_is IsColour _ (channel_and_comma r.1) (λ green is_g z h.
    and_then_is IsColour _ (channel_at green.1) (λ b is_b u i.
    and_then_is IsColour _ (alpha_at b.1) (λ a is_a t k.
    and_then_is IsColour _ (behind is_close a.1) (λ rest is_rest v j.
    let few = alpha_is b.1 a is_a in
    let is : IsColour (record { r = r.0; g = green.0; b = b.0; a = 255 * a.0 }) = record {
      red = channel_and_comma_is inside r is_r;
      green = channel_and_comma_is r.1 green is_g;
      blue = channel_is green.1 b is_b;
      alpha = omega (arith, few);
    } in
    ended_is IsColour (record { r = r.0; g = green.0; b = b.0; a = 255 * a.0 }) rest is v j)
    t k) u i) z h) y g) x f) c e

or_is : (p q : Option Rgba) → ((c : Rgba) → p ≡ Some c → IsColour c) → ((c : Rgba) → q ≡ Some c → IsColour c) → (c : Rgba) → or_else p q ≡ Some c → IsColour c
or_is (Some x) q first second c e = first c e
or_is None q first second c e = second c e

pub colour_is : (words : List Word) (c : Rgba) → colour_of words ≡ Ok c → IsColour c
unfolding colour_of
colour_is words c e =
    bad_ok IsColour _ (λ (found : Rgba). Ok found) (λ a is x same.
    let found =
    or_is (option_and_then hash_colour (lone when_hash words)) _
    (λ y f. and_then_is IsColour hash_colour (lone when_hash words) (λ bytes there z g. hash_is bytes z g) y f)
    (λ y f. or_is (option_and_then (lookup colour_names) (lone when_ident words)) (rgb_of words)
    (λ z g. and_then_is IsColour (lookup colour_names) (lone when_ident words) (λ bytes there u h. lookup_is IsColour colour_names bytes named_are u h) z g)
    (λ z g. rgb_is words z g) y f) a is in
    let same_c : a ≡ x = cc in
    subst IsColour same_c found) c e
