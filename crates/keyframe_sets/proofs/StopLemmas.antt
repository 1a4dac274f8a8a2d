-- The stops of a property among keyframes, and the first and the last of a list.
use Rattle.std.proofs.Common.{Bool, ◌||◌, Option, Some, None, List, [], ◌∷◌, ◌++◌, ◌≡◌, ◌-◌, length, nat_lt, is_some, unwrap_or, refl, ◌∙◌, arith, filter_map, suc}
use Rattle.std.specs.List.{list_any, cons_option}
use Rattle.std.proofs.lemmas.Bool.Decides.{nat_tests}
use Rattle.page_model.specs.Keyframes.{first_of, last_of}

-- some item gives something exactly where what they give isn't empty
pub filter_map-some : {X Y : Type 0} (f : X → Option Y) (xs : List X)
    → list_any (λ x. is_some (f x)) xs ≡ nat_lt 0 (length (filter_map f xs))
filter_map-some f [] = refl
filter_map-some f (x ∷ xs) = some_more (f x) (list_any (λ y. is_some (f y)) xs) (filter_map f xs) (filter_map-some f xs)
  where
    some_more : {Y : Type 0} (o : Option Y) (others : Bool) (ys : List Y) → others ≡ nat_lt 0 (length ys)
        → (is_some o || others) ≡ nat_lt 0 (length (cons_option o ys))
    some_more (Some y) others ys e = grind (arith, nat_tests)
    some_more None others ys e = e

-- one more at the front of a list is its last only where it was empty
pub last_of-cons : {X : Type 0} (x : X) (xs : List X) → last_of (x ∷ xs) ≡ Some (unwrap_or (last_of xs) x)
last_of-cons x [] = refl
last_of-cons x (y ∷ ys) =
    let less : suc (suc (length ys)) - 1 ≡ suc (suc (length ys) - 1) = omega arith in
    rw less (rw (last_of-cons y ys) refl)

-- one at the end of a list is its last, and its first only where it was empty
pub last_of-append : {X : Type 0} (xs : List X) (x : X) → last_of (xs ++ x ∷ []) ≡ Some x
last_of-append [] x = refl
last_of-append (y ∷ ys) x = last_of-cons y (ys ++ x ∷ []) ∙ rw (last_of-append ys x) refl

pub first_of-append : {X : Type 0} (xs : List X) (x : X) → first_of (xs ++ x ∷ []) ≡ Some (unwrap_or (first_of xs) x)
first_of-append [] x = refl
first_of-append (y ∷ ys) x = refl
