-- The words of rows that lie side by side.
use Rattle.std.proofs.Common.{arith, refl, ap, sym, ◌∙◌, ℕ, zero, suc, ◌≡◌, ◌+◌, ◌-◌, ◌*◌, ◌<◌, ◌≤◌, List, [], ◌∷◌, length, get_or, map, take, drop, replicate}
use Rattle.std.specs.List.{range_with_len}
use Rattle.std.proofs.lemmas.Nat.{mul-le}
use Rattle.std.proofs.lemmas.List.{get_or-take, get_or-drop, length-take-le, length-drop}
use Rattle.std.proofs.lemmas.List.FromFn.{fill_by_all, length-map-range_with_len, get_or-map-range_with_len}
use Rattle.row_pool.specs.Kept.{row_in, rows_in}

-- what lies before a row, and the row, are no more than all rows
pub row-inside : (width count long number : ℕ) → long ≡ count * width → number < count → number * width + width ≤ long
row-inside width count long number are h = let below : (number + 1) * width ≤ count * width = mul-le (number + 1) width count width (omega (arith, h)) (omega arith) in
    omega (arith, below, are)

-- one thing for each number
pub all_one : {X : Type 0} (x : X) (from count : ℕ) → map (λ (n : ℕ). x) (range_with_len from count) ≡ replicate count x
all_one x from zero = refl
all_one x from (suc count) = ap (λ xs. x ∷ xs) (all_one x (from + 1) count)

pub each_same : {X : Type 0} (f g : ℕ → X) → ((n : ℕ) → f n ≡ g n) → (ns : List ℕ) → map f ns ≡ map g ns
each_same f g same [] = refl
each_same f g same (n ∷ ns) = rw (same n, each_same f g same ns) refl

-- rows without words are rows of zeros
pub opened-rows : (rows width : ℕ) → rows_in rows width [] ≡ replicate rows (replicate width 0)
opened-rows rows width = each_same (λ n. row_in width [] n) (λ n. replicate width 0) (λ n. all_one 0 0 width) (range_with_len 0 rows) ∙ all_one (replicate width 0) 0 rows

-- the words of a row lie side by side
pub row-there : (rows width : ℕ) (words : List ℕ) (number end : ℕ) → number < rows → end ≡ number * width + width → end ≤ length words
    → take (end - number * width) (drop (number * width) words) ≡ get_or (rows_in rows width words) number []
row-there rows width words number end inside is_end there =
    let size : end - number * width ≡ width = omega (arith, is_end) in
    let long : length (take width (drop (number * width) words)) ≡ width = length-take-le width (drop (number * width) words) (rw (length-drop (number * width) words) (omega (arith, is_end, there))) in
    rw size (fill_by_all (λ i. get_or words (number * width + i) 0) (take width (drop (number * width) words)) width 0 long
    (λ k h. get_or-take width (drop (number * width) words) k 0 h ∙ get_or-drop (number * width) words k 0)
    ∙ sym (get_or-map-range_with_len (λ n. row_in width words n) 0 rows number number [] inside (omega arith)))

-- the same in a pool of so many rows, by what is true of each number
pub each_same_below : {X : Type 0} (f g : ℕ → X) (count : ℕ) → ((k : ℕ) → k < count → f k ≡ g k) → map f (range_with_len 0 count) ≡ map g (range_with_len 0 count)
each_same_below f g count same = fill_by_all g (map f (range_with_len 0 count)) count (f 0) (length-map-range_with_len f 0 count)
    (λ k h. get_or-map-range_with_len f 0 count k k (f 0) h (omega arith) ∙ same k h)

-- rows have the words they had where each word is what it was
pub same-rows : (rows width : ℕ) (words new : List ℕ) → ((place : ℕ) → get_or new place 0 ≡ get_or words place 0) → rows_in rows width new ≡ rows_in rows width words
same-rows rows width words new same = each_same (λ n. row_in width new n) (λ n. row_in width words n)
    (λ n. each_same (λ i. get_or new (n * width + i) 0) (λ i. get_or words (n * width + i) 0) (λ i. same (n * width + i)) (range_with_len 0 width))
    (range_with_len 0 rows)
