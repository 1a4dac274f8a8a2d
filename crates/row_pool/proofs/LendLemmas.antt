-- The rows of a pool after one of them was written.
use Rattle.std.proofs.Common.{arith, ap, sym, subst, inl, inr, ◌∙◌, ℕ, ◌≡◌, ◌+◌, ◌-◌, ◌*◌, ◌<◌, ◌≤◌, ◌≢◌, Bool, false, List, [], ◌++◌, drop, take, length, get_or, map, set, nat_lt, nat_le, nat_eq, ◌&&◌}
use Rattle.std.specs.List.{range_with_len}
use Rattle.std.proofs.lemmas.Bool.{and_from, and_parts, cases_Bool, cases_eq, cases_lt, cond-false, cond-true, cond_both, eqb-true, le-leb, leb-true, lt-ltb, ltb-true, true≢false}
use Rattle.std.proofs.lemmas.Nat.{mul-add-lt, mul-le}
use Rattle.std.proofs.lemmas.List.{get_or-set_same, get_or-set_other, get_or_past, same_lists, length-set}
use Rattle.std.proofs.lemmas.List.FromFn.{fill_by_all, length-map-range_with_len, get_or-map-range_with_len}
use Rattle.row_pool.specs.Kept.{free_in, row_in, rows_in}
use Rattle.row_pool.specs.Lending.{overrun, overrun_word, with_words}
use Rattle.row_pool.specs.Pools.{row_of, with_row}
use Rattle.row_pool.specs.Rows.{Rows}
use Rattle.row_pool.proofs.RowLemmas.{each_same_below, row-inside}
use Rattle.row_pool.proofs.TakeLemmas.{seen}
use Rattle.row_pool.proofs.WriteLemmas.{cut, cut-before, cut-inside, cut-behind, cut-length, written}

-- a row of a pool, and a word of it
pub row-at : (rows width : ℕ) (words : List ℕ) (number : ℕ) (d : List ℕ) → number < rows → get_or (rows_in rows width words) number d ≡ row_in width words number
row-at rows width words number d h = get_or-map-range_with_len (λ n. row_in width words n) 0 rows number number d h (omega arith)

pub row-length : (width : ℕ) (words : List ℕ) (number : ℕ) → length (row_in width words number) ≡ width
row-length width words number = length-map-range_with_len (λ i. get_or words (number * width + i) 0) 0 width

pub word-at : (width : ℕ) (words : List ℕ) (number i : ℕ) → i < width → get_or (row_in width words number) i 0 ≡ get_or words (number * width + i) 0
word-at width words number i h = get_or-map-range_with_len (λ k. get_or words (number * width + k) 0) 0 width i i 0 h (omega arith)

-- rows before another end before it begins, and rows behind it begin where it ends or later
row-before : (width k number i : ℕ) → k < number → i < width → k * width + i < number * width
row-before width k number i h below = let less : k * width + i < width * number = mul-add-lt k width i number h below in omega (arith, less)

row-behind : (width k number i : ℕ) → number < k → number * width + width ≤ k * width + i
row-behind width k number i h = let less : (number + 1) * width ≤ k * width = mul-le (number + 1) width k width (omega (arith, h)) (omega arith) in omega (arith, less)

-- a row is written whole
pub row-written : (rows width : ℕ) (words : List ℕ) (number : ℕ) (row : List ℕ) → number < rows → number * width + width ≤ length words → length row ≡ width
    → rows_in rows width (cut words (number * width) row) ≡ set (rows_in rows width words) number row
row-written rows width words number row inside there long =
    let many : length (rows_in rows width words) ≡ rows = length-map-range_with_len (λ n. row_in width words n) 0 rows in
    let many_new : length (rows_in rows width (cut words (number * width) row)) ≡ rows = length-map-range_with_len (λ n. row_in width (cut words (number * width) row) n) 0 rows in
    same_lists (rows_in rows width (cut words (number * width) row)) (set (rows_in rows width words) number row) (many_new ∙ sym (length-set (rows_in rows width words) number row ∙ many))
    (λ k d below. let k_inside : k < rows = omega (arith, below, many_new) in
    row-at rows width (cut words (number * width) row) k d k_inside ∙ elim (cases_eq k number) [
      | inl e ↦ ap (λ n. row_in width (cut words (number * width) row) n) e ∙ sym (whole) ∙ sym (ap (λ n. get_or (set (rows_in rows width words) number row) n d) e
          ∙ get_or-set_same (rows_in rows width words) number row d (omega (arith, many, inside)))
      | inr e ↦ other k e ∙ sym (get_or-set_other (rows_in rows width words) number k row d e ∙ row-at rows width words k d k_inside)
    ])
  where
    start_there : number * width ≤ length words
    start_there = omega (arith, there)

    whole : row ≡ row_in width (cut words (number * width) row) number
    whole = fill_by_all (λ i. get_or (cut words (number * width) row) (number * width + i) 0) row width 0 long
        (λ i h. let place : number * width + i - number * width ≡ i = omega arith in
        ap (λ n. get_or row n 0) (sym place) ∙ sym (cut-inside words (number * width) row (number * width + i) start_there (omega arith) (omega (arith, h, long)) (omega (arith, h, there))))

    other : (k : ℕ) → k ≢ number → row_in width (cut words (number * width) row) k ≡ row_in width words k
    other k e = each_same_below (λ i. get_or (cut words (number * width) row) (k * width + i) 0) (λ i. get_or words (k * width + i) 0) width
        (λ i h. elim (cases_lt k number) [
          | inl before ↦ cut-before words (number * width) row (k * width + i) start_there (row-before width k number i before h)
          | inr behind ↦ (let after : number * width + width ≤ k * width + i = row-behind width k number i (omega (arith, behind, e)) in
              cut-behind words (number * width) row (k * width + i) start_there (omega (arith, after, long)))
        ])

-- a word after words were written that may be more or fewer than the row's
pub word-overrun : (rows width : ℕ) (words : List ℕ) (out : List Bool) (number : ℕ) (row : List ℕ) (k i : ℕ) → length words ≡ length out * width
    → number * width ≤ length words → k < rows → i < width
    → get_or (cut words (number * width) row) (k * width + i) 0 ≡ overrun_word (seen rows width words out) width number row k i
word-overrun rows width words out number row k i are start_there inside below =
    let was : get_or (get_or (rows_in rows width words) k []) i 0 ≡ get_or words (k * width + i) 0 =
    ap (λ (xs : List ℕ). get_or xs i 0) (row-at rows width words k [] inside) ∙ word-at width words k i below in
    cond_both (nat_lt k (length out) && (nat_le (number * width) (k * width + i) && nat_lt (k * width + i) (number * width + length row)))
    (get_or row (k * width + i - number * width) 0) (get_or (get_or (rows_in rows width words) k []) i 0)
    (λ v. get_or (cut words (number * width) row) (k * width + i) 0 ≡ v)
    (λ e. let both = and_parts (nat_lt k (length out)) (nat_le (number * width) (k * width + i) && nat_lt (k * width + i) (number * width + length row)) e in
    let two = and_parts (nat_le (number * width) (k * width + i)) (nat_lt (k * width + i) (number * width + length row)) both.1 in
    let before : k * width + i < width * length out = mul-add-lt k width i (length out) (ltb-true k (length out) both.0) below in
    cut-inside words (number * width) row (k * width + i) start_there (leb-true (number * width) (k * width + i) two.0) (ltb-true (k * width + i) (number * width + length row) two.1) (omega (arith, before, are)))
    (λ e. outside e ∙ sym was)
  where
    outside : (nat_lt k (length out) && (nat_le (number * width) (k * width + i) && nat_lt (k * width + i) (number * width + length row))) ≡ false
        → get_or (cut words (number * width) row) (k * width + i) 0 ≡ get_or words (k * width + i) 0
    outside e = elim (cases_lt k (length out)) [
      | inr past ↦ (let beyond : length out * width ≤ k * width = mul-le (length out) width k width past (omega arith) in
          get_or_past (cut words (number * width) row) (k * width + i) 0 (subst (λ n. n ≤ k * width + i) (sym (cut-length words (number * width) row start_there)) (omega (arith, beyond, are)))
          ∙ sym (get_or_past words (k * width + i) 0 (omega (arith, beyond, are))))
      | inl known ↦ (elim (cases_lt (k * width + i) (number * width)) [
        | inl before ↦ cut-before words (number * width) row (k * width + i) start_there before
        | inr from ↦ (elim (cases_lt (k * width + i) (number * width + length row)) [
          | inr behind ↦ cut-behind words (number * width) row (k * width + i) start_there behind
          | inl to ↦ absurd (true≢false (sym (and_from (nat_lt k (length out)) (nat_le (number * width) (k * width + i) && nat_lt (k * width + i) (number * width + length row)) (lt-ltb k (length out) known)
              (and_from (nat_le (number * width) (k * width + i)) (nat_lt (k * width + i) (number * width + length row)) (le-leb (number * width) (k * width + i) from) (lt-ltb (k * width + i) (number * width + length row) to))) ∙ e))
        ])
      ])
    ]

-- the pool once the reference to a row has ended
pub lent : (rows width : ℕ) (words : List ℕ) (out : List Bool) (number : ℕ) (pool : Rows) → seen rows width words out ≡ pool → length words ≡ length out * width
    → number < length out → length out ≤ rows → (row : List ℕ) → seen rows width (cut words (number * width) row) out ≡ with_words number row pool
lent rows width words out number pool is are known within row = rw (← is) (elim (cases_Bool (nat_eq (length row) (length (row_of (seen rows width words out) number)))) [
  | inl e ↦ ap (λ rs. record { rows = rs; free = free_in rows out; begun = length out }) (row-written rows width words number row inside there (eqb-true (length row) (length (row_of (seen rows width words out) number)) e ∙ as_long))
      ∙ sym (cond-true (nat_eq (length row) (length (row_of (seen rows width words out) number))) (with_row number row (seen rows width words out)) (overrun number row (seen rows width words out)) e)
  | inr e ↦ ap (λ rs. record { rows = rs; free = free_in rows out; begun = length out }) run_over
      ∙ sym (cond-false (nat_eq (length row) (length (row_of (seen rows width words out) number))) (with_row number row (seen rows width words out)) (overrun number row (seen rows width words out)) e)
])
  where
    inside : number < rows
    inside = omega (arith, known, within)

    there : number * width + width ≤ length words
    there = row-inside width (length out) (length words) number are known

    as_long : length (row_of (seen rows width words out) number) ≡ width
    as_long = ap length (row-at rows width words number [] inside) ∙ row-length width words number

    many : length (rows_in rows width words) ≡ rows
    many = length-map-range_with_len (λ n. row_in width words n) 0 rows

    run_over : rows_in rows width (cut words (number * width) row)
        ≡ map (λ k. map (overrun_word (seen rows width words out) (length (row_of (seen rows width words out) number)) number row k) (range_with_len 0 (length (row_of (seen rows width words out) number)))) (range_with_len 0 (length (rows_in rows width words)))
    run_over = subst (λ w. rows_in rows width (cut words (number * width) row) ≡ map (λ k. map (overrun_word (seen rows width words out) w number row k) (range_with_len 0 w)) (range_with_len 0 (length (rows_in rows width words)))) (sym as_long)
        (subst (λ n. rows_in rows width (cut words (number * width) row) ≡ map (λ k. map (overrun_word (seen rows width words out) width number row k) (range_with_len 0 width)) (range_with_len 0 n)) (sym many)
        (each_same_below (λ k. row_in width (cut words (number * width) row) k) (λ k. map (overrun_word (seen rows width words out) width number row k) (range_with_len 0 width)) rows
        (λ k h. each_same_below (λ i. get_or (cut words (number * width) row) (k * width + i) 0) (λ i. overrun_word (seen rows width words out) width number row k i) width
        (λ i below. word-overrun rows width words out number row k i are (omega (arith, there)) h below))))

-- the same where the words are cut at a length that is theirs
pub lent-whole : (rows width long : ℕ) (words : List ℕ) (out : List Bool) (number : ℕ) (pool : Rows) → long ≡ length words → seen rows width words out ≡ pool
    → length words ≡ length out * width → number < length out → length out ≤ rows → (row : List ℕ)
    → seen rows width (take long (written words (number * width) row ++ drop (length (written words (number * width) row)) words)) out ≡ with_words number row pool
lent-whole rows width long words out number pool e is are known within row =
    subst (λ n. seen rows width (take n (written words (number * width) row ++ drop (length (written words (number * width) row)) words)) out ≡ with_words number row pool) (sym e)
    (lent rows width words out number pool is are known within row)
