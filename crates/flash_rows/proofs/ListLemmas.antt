-- The items of a list, of one with an item more, and of what is left of one.
use Rattle.std.proofs.Common.{ℕ, zero, suc, ◌≡◌, ◌+◌, ◌<◌, List, [], ◌∷◌, ◌++◌, length, drop, slice_get, Some, arith, refl}

pub slice_get-front : {X : Type 0} (xs ys : List X) (k : ℕ) → k < length xs → slice_get (xs ++ ys) k ≡ slice_get xs k
slice_get-front [] ys k within = absurd (omega arith)
slice_get-front (x ∷ xs) ys zero within = refl
slice_get-front (x ∷ xs) ys (suc k) within = slice_get-front xs ys k (omega arith)

pub slice_get-end : {X : Type 0} (xs : List X) (x : X) → slice_get (xs ++ x ∷ []) (length xs) ≡ Some x
slice_get-end [] x = refl
slice_get-end (y ∷ xs) x = slice_get-end xs x

pub slice_get-drop : {X : Type 0} (n : ℕ) (xs : List X) (k : ℕ) → slice_get (drop n xs) k ≡ slice_get xs (n + k)
slice_get-drop zero xs k = let e : 0 + k ≡ k = omega arith in rw e refl
slice_get-drop (suc n) [] k = refl
slice_get-drop (suc n) (x ∷ xs) k = let e : suc n + k ≡ suc (n + k) = omega arith in rw e (slice_get-drop n xs k)
