-- What holds of each element of a list, and of each and each later one.
use Rattle.std.proofs.Common.{◌≡◌, ℕ, zero, suc, ◌<◌, List, [], ◌∷◌, ◌++◌, map, Some, subst, arith}
use Rattle.std.specs.Prelude.{slice_get}
use Rattle.std.specs.List.{AllByRecursion as Each}

abbrev pub Pairs : {A : Type 0} → (A → A → Type 0) → List A → Type 0
Pairs R [] = Unit {0}
Pairs R (x ∷ xs) = Each (R x) xs × Pairs R xs

pub each_append : {A : Type 0} (P : A → Type 0) (xs ys : List A) → Each P xs → Each P ys → Each P (xs ++ ys)
each_append P [] ys here there = there
each_append P (x ∷ xs) ys here there = (here.0, each_append P xs ys here.1 there)

pub each_back : {A : Type 0} (P : A → Type 0) (xs ys : List A) → Each P (xs ++ ys) → Each P ys
each_back P [] ys each = each
each_back P (x ∷ xs) ys each = each_back P xs ys each.1

pub each_front : {A : Type 0} (P : A → Type 0) (xs ys : List A) → Each P (xs ++ ys) → Each P xs
each_front P [] ys each = tt
each_front P (x ∷ xs) ys each = (each.0, each_front P xs ys each.1)

pub each_as : {A : Type 0} (P Q : A → Type 0) → ((x : A) → P x → Q x) → (xs : List A) → Each P xs → Each Q xs
each_as P Q into [] each = tt
each_as P Q into (x ∷ xs) each = (into x each.0, each_as P Q into xs each.1)

pub each_mapped : {A B : Type 0} (P : B → Type 0) (f : A → B) (xs : List A) → Each (λ x. P (f x)) xs → Each P (map f xs)
each_mapped P f [] each = tt
each_mapped P f (x ∷ xs) each = (each.0, each_mapped P f xs each.1)

pub each_of : {A : Type 0} (P : A → Type 0) → ((x : A) → P x) → (xs : List A) → Each P xs
each_of P all [] = tt
each_of P all (x ∷ xs) = (all x, each_of P all xs)

pub each_at : {A : Type 0} (P : A → Type 0) (xs : List A) → Each P xs → (i : ℕ) (x : A) → slice_get xs i ≡ Some x → P x
each_at P [] each i x is = absurd (cc)
each_at P (y ∷ xs) each zero x is = let same : y ≡ x = cc in subst P same each.0
each_at P (y ∷ xs) each (suc i) x is = each_at P xs each.1 i x is

pub pairs_append : {A : Type 0} (R : A → A → Type 0) (xs ys : List A) → Pairs R xs → Pairs R ys → Each (λ x. Each (R x) ys) xs → Pairs R (xs ++ ys)
pairs_append R [] ys here there cross = there
pairs_append R (x ∷ xs) ys here there cross = (each_append (R x) xs ys here.0 cross.0, pairs_append R xs ys here.1 there cross.1)

pub pairs_back : {A : Type 0} (R : A → A → Type 0) (xs ys : List A) → Pairs R (xs ++ ys) → Pairs R ys
pairs_back R [] ys pairs = pairs
pairs_back R (x ∷ xs) ys pairs = pairs_back R xs ys pairs.1

pub pairs_front : {A : Type 0} (R : A → A → Type 0) (xs ys : List A) → Pairs R (xs ++ ys) → Pairs R xs
pairs_front R [] ys pairs = tt
pairs_front R (x ∷ xs) ys pairs = (each_front (R x) xs ys pairs.0, pairs_front R xs ys pairs.1)

pub pairs_cross : {A : Type 0} (R : A → A → Type 0) (xs ys : List A) → Pairs R (xs ++ ys) → Each (λ x. Each (R x) ys) xs
pairs_cross R [] ys pairs = tt
pairs_cross R (x ∷ xs) ys pairs = (each_back (R x) xs ys pairs.0, pairs_cross R xs ys pairs.1)

pub pairs_mapped : {A B : Type 0} (R : B → B → Type 0) (f : A → B) (xs : List A) → Pairs (λ x y. R (f x) (f y)) xs → Pairs R (map f xs)
pairs_mapped R f [] pairs = tt
pairs_mapped R f (x ∷ xs) pairs = (each_mapped (R (f x)) f xs pairs.0, pairs_mapped R f xs pairs.1)

pub pairs_as : {A : Type 0} (R S : A → A → Type 0) → ((x y : A) → R x y → S x y) → (xs : List A) → Pairs R xs → Pairs S xs
pairs_as R S into [] pairs = tt
pairs_as R S into (x ∷ xs) pairs = (each_as (R x) (S x) (into x) xs pairs.0, pairs_as R S into xs pairs.1)

pub pairs_at : {A : Type 0} (R : A → A → Type 0) (xs : List A) → Pairs R xs → (i j : ℕ) (x y : A) → i < j → slice_get xs i ≡ Some x → slice_get xs j ≡ Some y → R x y
pairs_at R [] pairs i j x y less first second = absurd (cc)
pairs_at R (z ∷ xs) pairs zero zero x y less first second = absurd (omega arith)
pairs_at R (z ∷ xs) pairs zero (suc j) x y less first second =
    let same : z ≡ x = cc in subst (λ t. R t y) same (each_at (R z) xs pairs.0 j y second)
pairs_at R (z ∷ xs) pairs (suc i) zero x y less first second = absurd (omega arith)
pairs_at R (z ∷ xs) pairs (suc i) (suc j) x y less first second = pairs_at R xs pairs.1 i j x y (omega arith) first second
