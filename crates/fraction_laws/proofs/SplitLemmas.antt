-- Lists whose offsets rise: a test that fails from some element on splits them into the elements that pass and those that fail.
use Rattle.std.proofs.Common.{◌≡◌, ℕ, suc, ◌-◌, ◌<◌, Bool, true, false, not, List, [], ◌∷◌, ◌++◌, All, Some, filter, get_or, length, slice_get, arith, refl, ap, subst, inl, inr}
use Rattle.std.proofs.lemmas.Bool.{cases_Bool}
use Rattle.std.proofs.lemmas.List.Elements.{All-append, All-cons, All-head, All-tail}

-- the part before the last element
abbrev pub front_of : {X : Type 0} → List X → List X
front_of [] = []
front_of (x ∷ []) = []
front_of (x ∷ (y ∷ rest)) = x ∷ front_of (y ∷ rest)

-- a list with a last element is its front and that
pub split_last : {X : Type 0} (xs : List X) (x : X) → slice_get xs (length xs - 1) ≡ Some x → xs ≡ front_of xs ++ x ∷ []
split_last [] x e = absurd (cc)
split_last (y ∷ []) x e = let f : slice_get (y ∷ []) 0 ≡ Some x = e in cc
split_last {X = X} (y ∷ (z ∷ rest)) x e =
    let k : length (y ∷ (z ∷ rest)) - 1 ≡ suc (length (z ∷ rest) - 1) = omega arith in
    let f : slice_get (y ∷ (z ∷ rest)) (suc (length (z ∷ rest) - 1)) ≡ Some x = subst (λ (n : ℕ). slice_get (y ∷ (z ∷ rest)) n ≡ Some x) k e in
    ap (λ (more : List X). y ∷ more) (split_last (z ∷ rest) x f)

pub last-append : {X : Type 0} (xs : List X) (x : X) → slice_get (xs ++ x ∷ []) (length (xs ++ x ∷ []) - 1) ≡ Some x
last-append [] x = refl
last-append (y ∷ xs) x =
    let k : length (y ∷ (xs ++ x ∷ [])) - 1 ≡ length (xs ++ x ∷ []) = omega arith in
    let some = longer xs x in
    let j : length (xs ++ x ∷ []) ≡ suc (length (xs ++ x ∷ []) - 1) = omega arith in
    rw (k, j) (last-append xs x)
  where
    longer : {X : Type 0} (xs : List X) (x : X) → 0 < length (xs ++ x ∷ [])
    longer [] x = omega arith
    longer (y ∷ xs) x = omega arith

-- the rest behind the first element
abbrev pub rest_of : {X : Type 0} → List X → List X
rest_of [] = []
rest_of (x ∷ rest) = rest

pub split_first : {X : Type 0} (xs : List X) (x : X) → slice_get xs 0 ≡ Some x → xs ≡ x ∷ rest_of xs
split_first [] x e = absurd (cc)
split_first (y ∷ rest) x e = cc

-- a test that all pass, or none
pub filter-all : {X : Type 0} (p : X → Bool) (xs : List X) → All (λ x. p x ≡ true) xs → filter p xs ≡ xs
filter-all p [] all = refl
filter-all {X = X} p (x ∷ xs) all = rw (all 0 x (omega arith)) (ap (λ (more : List X). x ∷ more) (filter-all p xs (λ k d within. all (suc k) d (omega arith))))

pub filter-none : {X : Type 0} (p : X → Bool) (xs : List X) → All (λ x. p x ≡ false) xs → filter p xs ≡ []
filter-none p [] all = refl
filter-none p (x ∷ xs) all = rw (all 0 x (omega arith)) (filter-none p xs (λ k d within. all (suc k) d (omega arith)))

pub filter_some : {X : Type 0} (p : X → Bool) (x : X) (xs : List X) → p x ≡ true → 0 < length (filter p (x ∷ xs))
filter_some p x xs e = rw e (omega arith)

pub filter_more : {X : Type 0} (p : X → Bool) (x : X) (xs : List X) → 0 < length (filter p xs) → 0 < length (filter p (x ∷ xs))
filter_more p x xs some = elim (cases_Bool (p x)) [ inl e ↦ rw e (omega arith) | inr e ↦ rw e some ]

-- numbers of the elements rise
abbrev pub Ascends : {X : Type 0} → (X → ℕ) → List X → Type 0
Ascends at [] = Unit {0}
Ascends at (x ∷ xs) = All (λ y. at x < at y) xs × Ascends at xs

pub Ascends-append : {X : Type 0} (at : X → ℕ) (xs ys : List X) → Ascends at xs → Ascends at ys → All (λ x. All (λ y. at x < at y) ys) xs → Ascends at (xs ++ ys)
Ascends-append at [] ys first second across = second
Ascends-append at (x ∷ xs) ys first second across = (
  All-append (λ y. at x < at y) xs ys first.0 (across 0 x (omega arith)),
  Ascends-append at xs ys first.1 second (λ k d within. across (suc k) d (omega arith)),
)

All-middle : {X : Type 0} (P : X → Type 0) (xs : List X) (y : X) (ys : List X) → All P (xs ++ y ∷ ys) → P y
All-middle P [] y ys all = All-head P y ys all
All-middle P (x ∷ xs) y ys all = All-middle P xs y ys (All-tail P x (xs ++ y ∷ ys) all)

-- what stands before an element has a smaller number
pub Ascends-before : {X : Type 0} (at : X → ℕ) (xs : List X) (y : X) (ys : List X) → Ascends at (xs ++ y ∷ ys) → All (λ x. at x < at y) xs
Ascends-before at [] y ys rises = λ k d within. absurd (omega arith)
Ascends-before at (x ∷ xs) y ys rises =
    All-cons (λ x. at x < at y) x xs (All-middle (λ z. at x < at z) xs y ys rises.0) (Ascends-before at xs y ys rises.1)

-- a test that passes below whatever passes splits the list
pub filter-split :
    {X : Type 0} (at : X → ℕ) (p : X → Bool) (xs : List X) → ((x y : X) → at x < at y → p y ≡ true → p x ≡ true) → Ascends at xs
    → xs ≡ filter p xs ++ filter (λ x. not (p x)) xs
filter-split at p [] below rises = refl
filter-split {X} at p (x ∷ xs) below rises =
    elim (cases_Bool (p x)) [
      | inl e ↦ rw e (ap (λ (more : List X). x ∷ more) (filter-split at p xs below rises.1))
      | inr e ↦ rw e (ends at p x xs below e rises.0)
    ] where
      ends :
          {X : Type 0} (at : X → ℕ) (p : X → Bool) (x : X) (xs : List X) → ((x y : X) → at x < at y → p y ≡ true → p x ≡ true)
          → p x ≡ false → All (λ y. at x < at y) xs → x ∷ xs ≡ filter p xs ++ x ∷ filter (λ x. not (p x)) xs
      ends {X} at p x xs below e larger =
          let fails : All (λ y. p y ≡ false) xs = λ k d within. elim (cases_Bool (p (get_or xs k d))) [
            | inl passes ↦ absurd (let f = below x (get_or xs k d) (larger k d within) passes in cc)
            | inr fails ↦ fails
          ] in
          let others : All (λ y. not (p y) ≡ true) xs = λ k d within. rw (fails k d within) in
          rw (filter-none p xs fails, filter-all (λ x. not (p x)) xs others)
