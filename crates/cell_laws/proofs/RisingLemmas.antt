-- Rising lists: later numbers are greater, and two with the same numbers are one.
use Rattle.std.proofs.Common.{ℕ, zero, suc, ◌≡◌, ◌⊎◌, ◌+◌, ◌-◌, ◌<◌, ◌≤◌, ◌∙◌, List, [], ◌∷◌, length, get_or, arith, inl, inr, refl, sym, subst}
use Rattle.std.specs.Prelude.{Contains}
use Rattle.std.specs.List.Sorted.{IsStrictlyIncreasing}
use Rattle.std.proofs.lemmas.List.{get_or_default}

-- a later number is no smaller
rising-le : (xs : List ℕ) (i n : ℕ) → IsStrictlyIncreasing xs → i + n < length xs → get_or xs i 0 ≤ get_or xs (i + n) 0
rising-le xs i zero rising within = let same : i + 0 ≡ i = omega arith in rw same (omega arith)
rising-le xs i (suc n) rising within =
    let next : i + suc n ≡ i + n + 1 = omega arith in
    let before = rising-le xs i n rising (omega arith) in
    let step = rising (i + n) (omega arith) in
    rw next (omega arith)

pub rising-between : (xs : List ℕ) (i j : ℕ) → IsStrictlyIncreasing xs → i ≤ j → j < length xs → get_or xs i 0 ≤ get_or xs j 0
rising-between xs i j rising order within =
    let sum : i + (j - i) ≡ j = omega arith in
    rw sum at (rising-le xs i (j - i) rising (omega arith))

-- what rises, rises behind its first number, and each number there is greater than that
rising-rest : (x : ℕ) (xs : List ℕ) → IsStrictlyIncreasing (x ∷ xs) → IsStrictlyIncreasing xs
rising-rest x xs rising k within =
    let next : suc k + 1 ≡ suc (k + 1) = omega arith in
    subst (λ m. get_or xs k 0 < get_or (x ∷ xs) m 0) next (rising (suc k) (omega arith))

above-first : (x z : ℕ) (xs : List ℕ) → IsStrictlyIncreasing (x ∷ xs) → Contains xs z → x < z
above-first x z xs rising (k, within, is) =
    let start = rising 0 (omega arith) in
    let order = rising-between (x ∷ xs) 1 (suc k) rising (omega arith) (omega arith) in
    let same : get_or xs k 0 ≡ z = get_or_default xs k 0 z within ∙ is in
    omega arith

contains-cases : (x z : ℕ) (xs : List ℕ) → Contains (x ∷ xs) z → (x ≡ z) ⊎ Contains xs z
contains-cases x z xs (zero, within, is) = inl is
contains-cases x z xs (suc k, within, is) = inr (k, omega arith, is)

contains-first : (x : ℕ) (xs : List ℕ) → Contains (x ∷ xs) x
contains-first x xs = (0, omega arith, refl)

contains-rest : (x z : ℕ) (xs : List ℕ) → Contains xs z → Contains (x ∷ xs) z
contains-rest x z xs (k, within, is) = (suc k, omega arith, is)

contains-none : (z : ℕ) → Contains [] z → ⊥
contains-none z (k, within, is) = absurd (omega arith)

-- the numbers behind the first ones are the same where all are and the first ones are equal
rest-in : (x y : ℕ) (xs ys : List ℕ) → x ≡ y → IsStrictlyIncreasing (x ∷ xs)
    → ((z : ℕ) → Contains (x ∷ xs) z → Contains (y ∷ ys) z) → (z : ℕ) → Contains xs z → Contains ys z
rest-in x y xs ys same rising into z has =
    elim (contains-cases y z ys (into z (contains-rest x z xs has))) [
      | inl is ↦ let less = above-first x z xs rising has in absurd (omega arith)
      | inr there ↦ there
    ]

-- two rising lists with the same numbers are one
pub rising-unique : (xs ys : List ℕ) → IsStrictlyIncreasing xs → IsStrictlyIncreasing ys
    → ((z : ℕ) → Contains xs z → Contains ys z) → ((z : ℕ) → Contains ys z → Contains xs z) → xs ≡ ys
rising-unique [] [] rises rising into back = refl
rising-unique [] (y ∷ ys) rises rising into back = absurd (contains-none y (back y (contains-first y ys)))
rising-unique (x ∷ xs) [] rises rising into back = absurd (contains-none x (into x (contains-first x xs)))
rising-unique (x ∷ xs) (y ∷ ys) rises rising into back =
    let same : x ≡ y = elim (contains-cases y x ys (into x (contains-first x xs))) [
      | inl is ↦ sym is
      | inr later ↦ elim (contains-cases x y xs (back y (contains-first y ys))) [
        | inl is ↦ is
        | inr other ↦
            let one = above-first y x ys rising later in
            let two = above-first x y xs rises other in
            absurd (omega arith)
      ]
    ] in
    let rest = rising-unique xs ys (rising-rest x xs rises) (rising-rest y ys rising) (rest-in x y xs ys same rises into)
    (rest-in y x ys xs (sym same) rising back) in
    cc

-- a rising list whose numbers are all in another one is no longer
pub rising-fewer : (xs ys : List ℕ) → IsStrictlyIncreasing xs → IsStrictlyIncreasing ys
    → ((z : ℕ) → Contains xs z → Contains ys z) → length xs ≤ length ys
rising-fewer [] ys rises rising into = omega arith
rising-fewer (x ∷ xs) [] rises rising into = absurd (contains-none x (into x (contains-first x xs)))
rising-fewer (x ∷ xs) (y ∷ ys) rises rising into =
    elim (contains-cases y x ys (into x (contains-first x xs))) [
      | inl same ↦
          let fewer = rising-fewer xs ys (rising-rest x xs rises) (rising-rest y ys rising) (rest-in x y xs ys (sym same) rises into) in
          omega arith
      | inr later ↦
          let fewer = rising-fewer (x ∷ xs) ys rises (rising-rest y ys rising) (λ z has.
          elim (contains-cases y z ys (into z has)) [
            | inl is ↦
                let above = above-first y x ys rising later in
                elim (contains-cases x z xs has) [
                  | inl first_is ↦ absurd (omega arith)
                  | inr behind ↦ let order = above-first x z xs rises behind in absurd (omega arith)
                ]
            | inr there ↦ there
          ]) in
          omega arith
    ]
