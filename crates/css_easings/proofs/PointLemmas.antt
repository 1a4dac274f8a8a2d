-- The points of a curve, read one after the other.
use Rattle.std.proofs.Common.{ℕ, ◌≡◌, Bool, List, [], ◌∷◌, Some, option_map, refl, codes}
use Rattle.css_words.specs.Words.{Word, behind, is_close, function_at, ended}
use Rattle.css_easings.specs.Easings.{point_and_comma, thousandths_at, points_at}

pub points_read : (words inside r1 r2 r3 r4 rest : List Word) (x1 y1 x2 y2 : Bool × ℕ) → function_at (codes "cubic-bezier(") words ≡ Some inside
    → point_and_comma inside ≡ Some (x1, r1) → point_and_comma r1 ≡ Some (y1, r2) → point_and_comma r2 ≡ Some (x2, r3)
    → thousandths_at r3 ≡ Some (y2, r4) → behind is_close r4 ≡ Some rest
    → points_at words ≡ ended (record { x1 = x1; y1 = y1; x2 = x2; y2 = y2 }) rest
unfolding points_at
points_read words inside r1 r2 r3 r4 rest x1 y1 x2 y2 a b c d e f = rw (a, b, c, d, e, f) refl

pub ended-map : {A B : Type 0} (f : A → B) (value : A) (words : List Word) → option_map f (ended value words) ≡ ended (f value) words
ended-map f value [] = refl
ended-map f value (w ∷ words) = refl
