-- The order of weights: what is below a third is below a second or the second below the third; and what is on neither side is equal.
use Rattle.std.proofs.Common.{◌≡◌, ℕ, suc, ◌<◌, true, false, List, [], ◌∷◌, refl, arith, ap, sym, subst, ◌∙◌, inl, inr}
use Rattle.std.specs.Prelude.{◌⊎◌, Option, Some, None, All, slice_index_or, ◌==◌, nat_lt}
use Rattle.std.proofs.lemmas.Bool.{cases_Bool, cases_lt, cases_order, false_from_ne_true}
use Rattle.std.proofs.lemmas.Bool.Decides.{nat_tests}
use Rattle.std.proofs.lemmas.List.Elements.{All-nil, All-cons, All-weaker, All-contains}
use Rattle.page_model.specs.Cascade.{Candidate, Weight, IsWinning, is_below_by, is_beaten_by, ranks}

same_head : (a : ℕ) (xs ys : List ℕ) → is_below_by (a ∷ xs) (a ∷ ys) ≡ is_below_by xs ys
same_head a xs ys = let e : (a == a) ≡ true = grind (arith, nat_tests) in rw e refl

less_head : (a b : ℕ) (xs ys : List ℕ) → a < b → is_below_by (a ∷ xs) (b ∷ ys) ≡ true
less_head a b xs ys h =
    let e : (a == b) ≡ false = grind (arith, nat_tests) in
    let l : nat_lt a b ≡ true = grind (arith, nat_tests) in
    rw (e, l) refl

more_head : (a b : ℕ) (xs ys : List ℕ) → b < a → is_below_by (a ∷ xs) (b ∷ ys) ≡ false
more_head a b xs ys h =
    let e : (a == b) ≡ false = grind (arith, nat_tests) in
    let l : nat_lt a b ≡ false = grind (arith, nat_tests) in
    rw (e, l) refl

-- nothing is below itself
below_itself : (xs : List ℕ) → is_below_by xs xs ≡ false
below_itself [] = refl
below_itself (a ∷ xs) = same_head a xs xs ∙ below_itself xs

-- what is below a third is below a second, or the second is below the third
between : (xs ys zs : List ℕ) → is_below_by xs zs ≡ true → (is_below_by xs ys ≡ true) ⊎ (is_below_by ys zs ≡ true)
between [] [] [] h = cc
between [] [] (c ∷ zs) h = inr refl
between [] (b ∷ ys) zs h = inl refl
between (a ∷ xs) ys [] h = cc
between (a ∷ xs) [] (c ∷ zs) h = inr refl
between (a ∷ xs) (b ∷ ys) (c ∷ zs) h =
    elim (cases_order a b) [
      | inr (inl lower) ↦ inl (less_head a b xs ys lower)
      | inr (inr higher) ↦ elim (cases_lt b c) [
        | inl lower ↦ inr (less_head b c ys zs lower)
        | inr above ↦ let m = more_head a c xs zs (omega arith) in cc
      ]
      | inl same ↦ elim (cases_order b c) [
        | inr (inl lower) ↦ inr (less_head b c ys zs lower)
        | inr (inr higher) ↦ let m = more_head a c xs zs (omega arith) in cc
        | inl alike ↦
            let tails : is_below_by xs zs ≡ true =
            sym (same_head a xs zs) ∙ subst (λ x. is_below_by (a ∷ xs) (x ∷ zs) ≡ true) (sym (same ∙ alike)) h in
            elim (between xs ys zs tails) [
              | inl p ↦ inl (subst (λ x. is_below_by (a ∷ xs) (x ∷ ys) ≡ true) same (same_head a xs ys ∙ p))
              | inr q ↦ inr (subst (λ x. is_below_by (b ∷ ys) (x ∷ zs) ≡ true) alike (same_head b ys zs ∙ q))
            ]
      ]
    ]

-- of two at most one is below the other
asymmetric : (xs ys : List ℕ) → is_below_by xs ys ≡ true → is_below_by ys xs ≡ false
asymmetric [] [] h = cc
asymmetric [] (b ∷ ys) h = refl
asymmetric (a ∷ xs) [] h = cc
asymmetric (a ∷ xs) (b ∷ ys) h =
    elim (cases_order a b) [
      | inr (inl lower) ↦ more_head b a ys xs lower
      | inr (inr higher) ↦ let m = more_head a b xs ys higher in cc
      | inl same ↦
          let tails : is_below_by xs ys ≡ true =
          sym (same_head a xs ys) ∙ subst (λ x. is_below_by (a ∷ xs) (x ∷ ys) ≡ true) (sym same) h in
          subst (λ x. is_below_by (x ∷ ys) (a ∷ xs) ≡ false) same (same_head a ys xs ∙ asymmetric xs ys tails)
    ]

-- of which neither is below the other, they are equal
equal : (xs ys : List ℕ) → is_below_by xs ys ≡ false → is_below_by ys xs ≡ false → xs ≡ ys
equal [] [] h k = refl
equal [] (b ∷ ys) h k = cc
equal (a ∷ xs) [] h k = cc
equal (a ∷ xs) (b ∷ ys) h k =
    elim (cases_order a b) [
      | inr (inl lower) ↦ let m = less_head a b xs ys lower in cc
      | inr (inr higher) ↦ let m = less_head b a ys xs higher in cc
      | inl same ↦
          let one : is_below_by xs ys ≡ false =
          sym (same_head a xs ys) ∙ subst (λ x. is_below_by (a ∷ xs) (x ∷ ys) ≡ false) (sym same) h in
          let other : is_below_by ys xs ≡ false =
          sym (same_head a ys xs) ∙ subst (λ x. is_below_by (x ∷ ys) (a ∷ xs) ≡ false) (sym same) k in
          let tails = equal xs ys one other in
          cc
    ]

-- one candidate more
abbrev Unbeaten : Candidate → Candidate → Type 0
Unbeaten winner c = is_beaten_by winner.weight c.weight ≡ false

own : (c : Candidate) → Unbeaten c c
own c = below_itself (ranks c.weight)

stays : (c w x : Candidate) → is_beaten_by c.weight w.weight ≡ false → Unbeaten w x → Unbeaten c x
stays c w x lower above =
    false_from_ne_true (is_beaten_by c.weight x.weight)
    (λ h. elim (between (ranks c.weight) (ranks w.weight) (ranks x.weight) h) [ inl p ↦ cc | inr q ↦ cc ])

extend : (c : Candidate) (rest : List Candidate) (w : Option Candidate) → IsWinning rest w → (v : Option Candidate) × IsWinning (c ∷ rest) v
extend c rest None none =
    (Some c, ((0, omega arith, refl), All-cons (Unbeaten c) c rest (own c) (subst (λ xs. All (Unbeaten c) xs) (sym none) (All-nil (Unbeaten c)))))
extend c rest (Some w) is =
    elim (cases_Bool (is_beaten_by c.weight w.weight)) [
      | inl beaten ↦ (
        Some w,
        (
          (suc is.0.0, omega (arith, is.0.1), is.0.2),
          All-cons (Unbeaten w) c rest (asymmetric (ranks c.weight) (ranks w.weight) beaten) is.1,
        ),
      )
      | inr unbeaten ↦ (
        Some c,
        (
          (0, omega arith, refl),
          All-cons (Unbeaten c) c rest (own c) (All-weaker (Unbeaten w) (Unbeaten c) (λ x above. stays c w x unbeaten above) rest is.1),
        ),
      )
    ]

pub winner-exists : (candidates : List Candidate) → (winner : Option Candidate) × IsWinning candidates winner
winner-exists [] = (None, refl)
winner-exists (c ∷ rest) = let found = winner-exists rest in extend c rest found.0 found.1

-- the weight of its numbers
abbrev weight_of : List ℕ → Weight
weight_of numbers = record {
  important = slice_index_or numbers 0 0;
  inline = slice_index_or numbers 1 0;
  ids = slice_index_or numbers 2 0;
  classes = slice_index_or numbers 3 0;
  types = slice_index_or numbers 4 0;
  place = slice_index_or numbers 5 0;
}

pub winner-weight :
    (candidates : List Candidate) (one other : Candidate) → IsWinning candidates (Some one) → IsWinning candidates (Some other)
    → one.weight ≡ other.weight
winner-weight candidates one other first second =
    let above = All-contains (Unbeaten one) candidates other first.1 second.0 in
    let below = All-contains (Unbeaten other) candidates one second.1 first.0 in
    ap weight_of (equal (ranks one.weight) (ranks other.weight) above below)
