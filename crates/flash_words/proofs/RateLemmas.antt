-- Lemmas on the words that write a rate.
use Rattle.std.proofs.Common.{◌≡◌, ◌∙◌, ℕ, ◌<◌, ◌≤◌, ◌^◌, Bool, true, false, List, [], ◌∷◌, ◌++◌, Result, Ok, Err, Option, Some, codes, decimal, length, length-append, get_or, refl, ap, arith, subst, sym, inl, inr}
use Rattle.std.specs.Prelude.{◌&&◌}
use Rattle.std.proofs.lemmas.Bool.{and_parts, cases_Bool}
use Rattle.std.proofs.lemmas.Bool.Decides.{nat_tests}
use Rattle.std.proofs.lemmas.Fmt.{digits_decimal}
use Rattle.std.proofs.lemmas.Str.Parse.{not_in_digits}
use Rattle.page_model.specs.Viewing.{Viewing, is_from_to, is_size, setup_of, setup_over_1001}
use Rattle.flash_words.proofs.Decimals.{own}

-- what makes a setup fits the numbers of the code
whole-parts : (w h n : ℕ) (s : Viewing) (size rate : Bool) → is_size w h ≡ size → is_from_to 1 240 n ≡ rate → setup_of w h n ≡ Ok s → rate ≡ true
whole-parts w h n s true true e f is = refl
whole-parts w h n s true false e f is = let g = rw (e, f) at is in cc
whole-parts w h n s false rate e f is = let g = rw e at is in cc

pub whole-fits : (w h n : ℕ) (s : Viewing) → setup_of w h n ≡ Ok s → n < 2 ^ 64
whole-fits w h n s is =
    let within : is_from_to 1 240 n ≡ true = whole-parts w h n s (is_size w h) (is_from_to 1 240 n) refl refl is in
    grind (arith, nat_tests)

over-parts :
    (w h n : ℕ) (s : Viewing) (size rate : Bool) → is_size w h ≡ size → is_from_to 1001 240000 n ≡ rate → setup_over_1001 w h n ≡ Ok s
    → (size ≡ true) × (rate ≡ true)
over-parts w h n s true true e f is = (refl, refl)
over-parts w h n s true false e f is = let g = rw (e, f) at is in cc
over-parts w h n s false rate e f is = let g = rw e at is in cc

pub over-fits : (w h n : ℕ) (s : Viewing) → setup_over_1001 w h n ≡ Ok s → (w < 2 ^ 16) × (h < 2 ^ 16) × (n < 2 ^ 32)
over-fits w h n s is =
    let parts = over-parts w h n s (is_size w h) (is_from_to 1001 240000 n) refl refl is in
    let sides = and_parts (is_from_to 1 4096 w) (is_from_to 1 4096 h) parts.0 in
    (up_to 1 4096 w (2 ^ 16) sides.0 (omega arith), up_to 1 4096 h (2 ^ 16) sides.1 (omega arith), up_to 1001 240000 n (2 ^ 32) parts.1 (omega arith))
  where
    up_to : (least limit n bound : ℕ) → is_from_to least limit n ≡ true → limit < bound → n < bound
    up_to least limit n bound within less = grind (arith, nat_tests)

-- the setup of equal numbers
pub over-read :
    (w h n a b m : ℕ) (s : Viewing) → ◌≡◌ {A = Option (ℕ × ℕ)} (Some (a, b)) (Some (w, h)) → Some m ≡ Some n → setup_over_1001 w h n ≡ Ok s
    → setup_over_1001 a b m ≡ Ok s
over-read w h n a b m s size rate is =
    let pair : ◌≡◌ {A = ℕ × ℕ} (a, b) (w, h) = cc in
    let width : w ≡ a = sym (ap (λ (p : ℕ × ℕ). p.0) pair) in
    let height : h ≡ b = sym (ap (λ (p : ℕ × ℕ). p.1) pair) in
    let num : n ≡ m = cc in
    subst (λ x. setup_over_1001 x b m ≡ Ok s) width
    (subst (λ y. setup_over_1001 w y m ≡ Ok s) height (subst (λ z. setup_over_1001 w h z ≡ Ok s) num is))

-- a number alone has no slash
at_seam : (xs ys : List ℕ) (c : ℕ) → get_or (xs ++ c ∷ ys) (length xs) 0 ≡ c
at_seam [] ys c = refl
at_seam (x ∷ xs) ys c = at_seam xs ys c

seam-within : (xs ys : List ℕ) (c : ℕ) → length xs < length (xs ++ c ∷ ys)
seam-within xs ys c = rw (length-append xs (c ∷ ys)) (omega arith)

pub no_slash : (n m : ℕ) → n < 2 ^ 64 → (text : List ℕ) → text ≡ decimal n → text ≡ decimal m ++ codes "/1001" → ⊥
no_slash n m fits text e f =
    let same : decimal m ++ codes "/1001" ≡ decimal n = sym f ∙ e in
    let within : length (decimal m) < length (decimal n) = subst (λ xs. length (decimal m) < length xs) same (seam-within (decimal m) (codes "1001") 47) in
    let slash : get_or (decimal n) (length (decimal m)) 0 ≡ 47 = subst (λ xs. get_or xs (length (decimal m)) 0 ≡ 47) same (at_seam (decimal m) (codes "1001") 47) in
    not_in_digits own (decimal n) 47 (digits_decimal own n fits) (λ digit. omega arith) (length (decimal m)) within slash
