-- A number that is held to 0 and 1 has at most a thousand thousandths.
use Rattle.std.proofs.Common.{ℕ, ◌≡◌, ◌≤◌, ◌==◌, Bool, true, false, List, Option, Some, None, cond, length, min, refl, subst, inl, inr, arith, option_and_then}
use Rattle.std.proofs.lemmas.Bool.{cases_Bool}
use Rattle.css_words.specs.Words.{Word}
use Rattle.css_words.specs.Numerals.{Numeral, amount, number_at, share_of, share_at}

pub share_is : (n : Numeral) (k : ℕ) → share_of n ≡ Some k → k ≤ 1000
unfolding share_of
share_is n k e = elim (cases_Bool (length n.unit == 0)) [
  | inl none ↦ by (amount 3 n) (rw none at e)
  | inr has ↦ absurd (let f : None ≡ Some k = rw has at e in cc)
] where
  held : (negative : Bool) (size : ℕ) → cond negative 0 (min size 1000) ≤ 1000
  held true size = omega arith
  held false size = omega arith

  by : (o : Option ℕ) → option_and_then (λ size. Some (cond n.negative 0 (min size 1000))) o ≡ Some k → k ≤ 1000
  by None f = absurd (cc)
  by (Some size) f = let same : cond n.negative 0 (min size 1000) ≡ k = cc in subst (λ (m : ℕ). m ≤ 1000) same (held n.negative size)

pub share_at_is : (words : List Word) (f : ℕ × List Word) → share_at words ≡ Some f → f.0 ≤ 1000
unfolding share_at
share_at_is words f e = by (number_at words) e where
  inner : (rest : List Word) (o : Option ℕ) → ((k : ℕ) → o ≡ Some k → k ≤ 1000) → option_and_then (λ n. Some (n, rest)) o ≡ Some f → f.0 ≤ 1000
  inner rest None few e = absurd (cc)
  inner rest (Some k) few e =
      let same : (k, rest) ≡ f = cc in
      subst (λ (g : ℕ × List Word). g.0 ≤ 1000) same (few k refl)

  by : (o : Option (Numeral × List Word)) → option_and_then (λ f. option_and_then (λ n. Some (n, f.1)) (share_of f.0)) o ≡ Some f → f.0 ≤ 1000
  by None e = absurd (cc)
  by (Some p) e = inner p.1 (share_of p.0) (share_is p.0) e
