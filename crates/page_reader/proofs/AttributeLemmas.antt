-- Lists of attributes, as far as loops have come.
use Rattle.std.proofs.Common.{◌≡◌, ℕ, zero, suc, ◌<◌, List, [], ◌∷◌, length, take, refl, ap, arith}

-- the front of a list that is no longer is the list
pub take_whole : (n : ℕ) (xs : List ℕ) → length xs < n → take n xs ≡ xs
take_whole zero xs short = absurd (omega arith)
take_whole (suc n) [] short = refl
take_whole (suc n) (x ∷ xs) short = ap (λ r. x ∷ r) (take_whole n xs (omega arith))
