-- Which numbers are free, by those that are out.
use Rattle.std.proofs.Common.{arith, refl, ap, sym, subst, inl, inr, ◌∙◌, ℕ, zero, suc, ◌≡◌, ◌+◌, ◌<◌, ◌≤◌, ◌≢◌, Bool, true, false, not, List, ◌-◌, cond, length, get_or, set, take}
use Rattle.std.specs.Prelude.{count_by}
use Rattle.std.proofs.lemmas.Bool.{cases_Bool, cases_eq, cases_lt, not-true, true≢false}
use Rattle.std.proofs.lemmas.List.{get_or-set_same, get_or-set_other, get_or_past, same_lists, length-set, take_all}
use Rattle.std.proofs.lemmas.List.Sums.{count_by_more_no, count_by_more_yes}
use Rattle.std.proofs.lemmas.List.FromFn.{length-map-range_with_len, get_or-map-range_with_len, sum_by-map-range_with_len_more}
use Rattle.row_pool.specs.Kept.{free_in}

-- a number of the pool is free where it isn't out
pub free_at : (rows : ℕ) (out : List Bool) (number : ℕ) (d : Bool) → number < rows → get_or (free_in rows out) number d ≡ not (get_or out number false)
free_at rows out number d h = get_or-map-range_with_len (λ n. not (get_or out n false)) 0 rows number number d h (omega arith)

-- a number past the pool's is neither free nor out
pub past : (rows : ℕ) (out : List Bool) (number : ℕ) (d : Bool) → rows ≤ number → get_or (free_in rows out) number d ≡ d
past rows out number d h = get_or_past (free_in rows out) number d (rw (length-map-range_with_len (λ n. not (get_or out n false)) 0 rows) h)

-- one that is out is one of those that were ever out
pub out-known : (rows : ℕ) (out : List Bool) (number : ℕ) → get_or (free_in rows out) number true ≡ false → number < length out
out-known rows out number is_out = elim (cases_lt number rows) [
  | inl h ↦ (elim (cases_lt number (length out)) [
    | inl known ↦ known
    | inr beyond ↦ absurd (true≢false (sym (ap not (get_or_past out number false beyond)) ∙ sym (free_at rows out number true h) ∙ is_out))
  ])
  | inr h ↦ absurd (true≢false (sym (past rows out number true h) ∙ is_out))
]

-- the same of the numbers that a contract sees
pub known-by : (rows : ℕ) (out free : List Bool) (number : ℕ) → free_in rows out ≡ free → get_or free number true ≡ false → number < length out
known-by rows out free number are is_out = out-known rows out number (rw are is_out)

-- one that is free is one of the pool, and isn't out
pub free-inside : (rows : ℕ) (out : List Bool) (number : ℕ) → get_or (free_in rows out) number false ≡ true → (number < rows) × (get_or out number false ≡ false)
free-inside rows out number is_free = elim (cases_lt number rows) [
  | inl h ↦ (h, not-true (get_or out number false) (sym (free_at rows out number false h) ∙ is_free))
  | inr h ↦ absurd (true≢false (sym is_free ∙ past rows out number false h))
]

-- after a change of one number alone
pub changed : (rows : ℕ) (out new : List Bool) (number : ℕ) (b : Bool) → number < rows → get_or new number false ≡ not b
    → ((k : ℕ) → k ≢ number → get_or new k false ≡ get_or out k false) → free_in rows new ≡ set (free_in rows out) number b
changed rows out new number b h here others =
    let long : length (free_in rows out) ≡ rows = length-map-range_with_len (λ n. not (get_or out n false)) 0 rows in
    let long_new : length (free_in rows new) ≡ rows = length-map-range_with_len (λ n. not (get_or new n false)) 0 rows in
    same_lists (free_in rows new) (set (free_in rows out) number b) (long_new ∙ sym (length-set (free_in rows out) number b ∙ long))
    (λ k d below. let inside : k < rows = omega (arith, below, long_new) in
    elim (cases_eq k number) [
      | inl e ↦ subst (λ n. get_or (free_in rows new) n d ≡ get_or (set (free_in rows out) number b) n d) (sym e)
          (free_at rows new number d h ∙ ap not here ∙ not_not b ∙ sym (get_or-set_same (free_in rows out) number b d (omega (arith, long, h))))
      | inr e ↦ free_at rows new k d inside ∙ ap not (others k e) ∙ sym (free_at rows out k d inside) ∙ sym (get_or-set_other (free_in rows out) number k b d e)
    ])
  where
    not_not : (b : Bool) → not (not b) ≡ b
    not_not true = refl
    not_not false = refl

-- a number that was out before is handed out, or made free
pub freed-set : (rows : ℕ) (out : List Bool) (number : ℕ) (b : Bool) → length out ≤ rows → number < length out
    → free_in rows (set out number (not b)) ≡ set (free_in rows out) number b
freed-set rows out number b within known =
    changed rows out (set out number (not b)) number b (omega (arith, within, known)) (get_or-set_same out number (not b) false known) (λ k e. get_or-set_other out number k (not b) false e)

-- how many of the first numbers are free, and how many are out
abbrev pub AreShared : List Bool → ℕ → Type 0
AreShared out n = count_by (λ is_free. is_free) (free_in n out) + count_by (λ is_out. is_out) (take n out) ≡ n

shared-more : (out : List Bool) (n : ℕ) → AreShared out n → AreShared out (n + 1)
shared-more out n shared =
    let one_more : count_by (λ is_free. is_free) (free_in (n + 1) out) ≡ count_by (λ is_free. is_free) (free_in n out) + cond (not (get_or out n false)) 1 0 =
    sum_by-map-range_with_len_more (λ (is_free : Bool). cond is_free 1 0) (λ k. not (get_or out k false)) 0 n n (omega arith) in
    elim (cases_lt n (length out)) [
      | inl h ↦ (elim (cases_Bool (get_or out n false)) [
        | inl e ↦ (let counted : count_by (λ is_out. is_out) (take (n + 1) out) ≡ count_by (λ is_out. is_out) (take n out) + 1 = count_by_more_yes (λ is_out. is_out) out n false h e in
            omega (arith, shared, counted, one_more ∙ ap (λ b. count_by (λ is_free. is_free) (free_in n out) + cond (not b) 1 0) e))
        | inr e ↦ (let counted : count_by (λ is_out. is_out) (take (n + 1) out) ≡ count_by (λ is_out. is_out) (take n out) = count_by_more_no (λ is_out. is_out) out n false h e in
            omega (arith, shared, counted, one_more ∙ ap (λ b. count_by (λ is_free. is_free) (free_in n out) + cond (not b) 1 0) e))
      ])
      | inr h ↦ (let counted : count_by (λ is_out. is_out) (take (n + 1) out) ≡ count_by (λ is_out. is_out) (take n out) =
          ap (λ xs. count_by (λ is_out. is_out) xs) (take_all (n + 1) out (omega (arith, h)) ∙ sym (take_all n out h)) in
          omega (arith, shared, counted, one_more ∙ ap (λ b. count_by (λ is_free. is_free) (free_in n out) + cond (not b) 1 0) (get_or_past out n false h)))
    ]

shared-all : (out : List Bool) (n : ℕ) → AreShared out n
shared-all out zero = refl
shared-all out (suc n) = let e : n + 1 ≡ suc n = omega arith in subst (AreShared out) e (shared-more out n (shared-all out n))

-- those of all numbers that are not out are free
pub free-count : (rows count : ℕ) (out free : List Bool) → length out ≤ rows → free_in rows out ≡ free → count ≡ count_by (λ is_out. is_out) out
    → rows - count ≡ count_by (λ is_free. is_free) free
free-count rows count out free within are is =
    let shared : count_by (λ is_free. is_free) (free_in rows out) + count_by (λ is_out. is_out) out ≡ rows =
    subst (λ xs. count_by (λ is_free. is_free) (free_in rows out) + count_by (λ is_out. is_out) xs ≡ rows) (take_all rows out within) (shared-all out rows) in
    rw (← are) (omega (arith, shared, is))
