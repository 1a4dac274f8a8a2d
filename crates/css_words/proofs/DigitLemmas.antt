-- Digits at the front of some bytes, and the size of their value.
use Rattle.std.proofs.Common.{ℕ, suc, ◌≡◌, ◌≤◌, ◌+◌, ◌-◌, ◌*◌, ◌^◌, ◌∙◌, true, false, cond, List, [], ◌∷◌, ◌++◌, length, take, refl, ap, sym, subst, arith, length-append}
use Rattle.std.proofs.Math.Nat.{pow-suc}
use Rattle.std.specs.Char.{digit_value}
use Rattle.std.specs.Str.Parse.{digits_value_after}
use Rattle.text_tokens.specs.Classes.{is_digit}
use Rattle.style_tokens.specs.CssReading.{skip}
use Rattle.css_words.specs.Numerals.{digits}

digits_split : (bytes : List ℕ) → bytes ≡ digits bytes ++ skip is_digit bytes
digits_split [] = refl
digits_split (b ∷ rest) =
    elim (is_digit b) as (λ v. b ∷ rest ≡ cond v (b ∷ digits rest) [] ++ cond v (skip is_digit rest) (b ∷ rest)) [
      | true ↦ ap (λ t. b ∷ t) (digits_split rest)
      | false ↦ refl
    ]

take_front : (front behind : List ℕ) → take (length (front ++ behind) - length behind) (front ++ behind) ≡ front
take_front [] behind = let e : length behind - length behind ≡ 0 = omega arith in rw e refl
take_front (x ∷ front) behind =
    let e : length (x ∷ (front ++ behind)) - length behind ≡ suc (length (front ++ behind) - length behind) = omega (arith, length-append {A = ℕ}) in
    rw e (ap (λ t. x ∷ t) (take_front front behind))

-- the digits are the bytes before those that are skipped to
pub front_digits : (bytes : List ℕ) → take (length bytes - length (skip is_digit bytes)) bytes ≡ digits bytes
front_digits bytes =
    let P : List ℕ → Type 0 = λ t. take (length t - length (skip is_digit bytes)) t ≡ digits bytes in
    subst P (sym (digits_split bytes)) (take_front (digits bytes) (skip is_digit bytes))

-- one more digit keeps the value below its bound
pub one_more : (value digit all left : ℕ) → value + 4 ≤ 4 * 10 ^ (all - suc left) → digit ≤ 36 → suc left ≤ all → value * 10 + digit + 4 ≤ 4 * 10 ^ (all - left)
one_more value digit all left small few more =
    let e : all - left ≡ suc (all - suc left) = omega arith in
    rw (e, pow-suc) (omega arith)

-- one more digit is read
pub next_digit : (value digit first : ℕ) (rest more : List ℕ) (total : ℕ) → rest ≡ first ∷ more → digits_value_after 10 value rest ≡ total
    → digit ≡ digit_value first → digits_value_after 10 (value * 10 + digit) more ≡ total
next_digit value digit first rest more total split so_far is =
    ap (λ x. digits_value_after 10 (value * 10 + x) more) is ∙ sym (ap (digits_value_after 10 value) split) ∙ so_far
