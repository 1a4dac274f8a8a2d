-- How a count grows by the places behind it, one after the other.
use Rattle.std.proofs.Common.{ℕ, zero, suc, ◌≡◌, ◌+◌, ◌<◌, ◌≤◌, List, length, get_or, arith, inl, inr, subst, get_or-set_same, get_or-set_other}
use Rattle.std.specs.Prelude.{min, slice_set}
use Rattle.std.proofs.lemmas.Bool.{cases_lt, cases_eq}
use Rattle.tint_changes.specs.Counting.{AreCounts, Begins, IsCount, IsCountBefore}

-- no change can always be had
begins-none : (R S : ℕ → ℕ → Type 0) (place n : ℕ) → n ≤ 0 → Begins R S n place
begins-none R S place zero within = tt
begins-none R S place (suc n) within = absurd (omega arith)

-- nothing was looked at yet
pub count_before-none : (R S : ℕ → ℕ → Type 0) (place : ℕ) → IsCountBefore R S place (place + 1) 0
count_before-none R S place = record {
  has = λ n within. begins-none R S place n within;
  most = λ n k few above below change begins. absurd (omega arith);
  small = omega arith;
}

-- the next place gives no more
pub count_before-kept : (R S : ℕ → ℕ → Type 0) (place later count : ℕ) → IsCountBefore R S place later count
    → ((n : ℕ) → n < 8 → R place later → Begins S R n later → n < count)
    → IsCountBefore R S place (later + 1) count
count_before-kept R S place later count before useless = record {
  has = before.has;
  most = λ n k few above below change begins. elim (cases_lt k later) [
    | inl early ↦ before.most n k few above early change begins
    | inr late ↦
        let same : k ≡ later = omega arith in
        useless n few (subst (λ m. R place m) same change) (subst (λ m. Begins S R n m) same begins)
  ];
  small = before.small;
}

-- the next place makes the change, and from it as many can be had as were counted, or more
pub count_before-raised : (R S : ℕ → ℕ → Type 0) (place later count after raised : ℕ) → place < later
    → IsCountBefore R S place later count → IsCount S R later after → count ≤ after → R place later
    → raised ≡ min (after + 1) 8 → IsCountBefore R S place (later + 1) raised
count_before-raised R S place later count after raised above before next enough change is = record {
  has = λ n within. has_raised n within;
  most = λ n k few behind below made begins. elim (cases_lt k later) [
    | inl early ↦ let more = before.most n k few behind early made begins in omega arith
    | inr late ↦
        let same : k ≡ later = omega arith in
        let more = next.most n (omega arith) (subst (λ m. Begins S R n m) same begins) in
        omega arith
  ];
  small = omega arith;
} where
  has_raised : (n : ℕ) → n ≤ raised → Begins R S n place
  has_raised zero within = tt
  has_raised (suc n) within = (later, above, change, next.has n (omega arith))

-- all places behind were looked at
pub count-all : (R S : ℕ → ℕ → Type 0) (place end count : ℕ) → ((k : ℕ) → R place k → k < end)
    → IsCountBefore R S place end count → IsCount R S place count
count-all R S place end count inside before = record {
  has = before.has;
  most = λ n few begins. most_all n few begins;
  small = before.small;
} where
  most_all : (n : ℕ) → n ≤ 8 → Begins R S n place → n ≤ count
  most_all zero few begins = omega arith
  most_all (suc n) few (k, above, change, begins) =
      let more = before.most n k (omega arith) above (inside k change) change begins in omega arith

-- with the count of one place more, written down
pub counts-more : (R S : ℕ → ℕ → Type 0) (place next end count : ℕ) (counts : List ℕ) → place < length counts
    → next ≤ place + 1 → IsCount R S place count → AreCounts R S next end counts
    → AreCounts R S place end (slice_set counts place count)
counts-more R S place next end count counts room step here behind k from below =
    elim (cases_eq k place) [
      | inl same ↦
          let put : get_or (slice_set counts place count) place 0 ≡ count = get_or-set_same counts place count 0 room in
          rw (same, put) here
      | inr other ↦
          let kept : get_or (slice_set counts place count) k 0 ≡ get_or counts k 0 = get_or-set_other counts place k count 0 other in
          rw kept (behind k (omega arith) below)
    ]
