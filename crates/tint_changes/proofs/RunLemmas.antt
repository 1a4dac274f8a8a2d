-- Runs of places, and the first of them.
use Rattle.std.proofs.Common.{ℕ, zero, suc, ◌≡◌, ◌⊎◌, ◌<◌, ◌≤◌, List, [], ◌∷◌, length, arith, inl, inr, refl, subst, sym, ap}
use Rattle.std.specs.Prelude.{Option, Some, None}
use Rattle.std.proofs.lemmas.Bool.{cases_lt}
use Rattle.page_model.specs.Flash.{IsNoLater}
use Rattle.tint_changes.specs.Counting.{Begins}
use Rattle.tint_changes.specs.Runs.{FirstOf, Follows, FollowsFirst, IsEarlier, IsFirstOf, IsRun}

-- who can have so many changes has a run of them, and the other way round
pub follows-begins : (R S : ℕ → ℕ → Type 0) (n place : ℕ) → Begins R S n place
    → (rest : List ℕ) × (length rest ≡ n) × Follows R S place rest
follows-begins R S zero place begins = ([], refl, tt)
follows-begins R S (suc n) place (k, above, change, begins) =
    let more = follows-begins S R n k begins in
    (k ∷ more.0, ap suc more.1, (above, change, more.2))

pub begins-follows : (R S : ℕ → ℕ → Type 0) (place : ℕ) (rest : List ℕ) → Follows R S place rest
    → Begins R S (length rest) place
begins-follows R S place [] follows = tt
begins-follows R S place (k ∷ rest) (above, change, follows) = (k, above, change, begins-follows S R k rest follows)

-- nothing follows, and nothing else of this length does
pub follows_first-none : (R S : ℕ → ℕ → Type 0) (place : ℕ) → FollowsFirst R S place []
follows_first-none R S place = record { follows = tt; first = λ others same follows. tt }

-- the first place from which enough can be had, and then the first rest
pub follows_first-more : (R S : ℕ → ℕ → Type 0) (place next : ℕ) (rest : List ℕ) → place < next → R place next
    → ((k : ℕ) → place < k → R place k → Begins S R (length rest) k → next ≤ k)
    → FollowsFirst S R next rest → FollowsFirst R S place (next ∷ rest)
follows_first-more R S place next rest above change earliest more = record {
  follows = (above, change, more.follows);
  first = λ others same follows. none_before others same follows;
} where
  none_before : (others : List ℕ) → length others ≡ length (next ∷ rest) → Follows R S place others
      → IsNoLater (next ∷ rest) others
  none_before [] same follows = absurd (omega arith)
  none_before (k ∷ others) same (behind, made, follows) =
      let long : length others ≡ length rest = omega arith in
      let begins = subst (λ n. Begins S R n k) long (begins-follows S R k others follows) in
      let least : next ≤ k = earliest k behind made begins in
      elim (cases_lt next k) [
        | inl before ↦ inl before
        | inr after ↦
            let at : next ≡ k = omega arith in
            inr (at, more.first others long (subst (λ m. Follows S R m others) (sym at) follows))
      ]

-- of three lists each no later than the next, the first is no later than the last
pub no_later-trans : (xs ys zs : List ℕ) → IsNoLater xs ys → IsNoLater ys zs → IsNoLater xs zs
no_later-trans [] ys zs first second = tt
no_later-trans (x ∷ xs) [] zs first second = absurd first
no_later-trans (x ∷ xs) (y ∷ ys) [] first second = absurd second
no_later-trans (x ∷ xs) (y ∷ ys) (z ∷ zs) (inl less) (inl below) = inl (omega arith)
no_later-trans (x ∷ xs) (y ∷ ys) (z ∷ zs) (inl less) (inr (same, second)) = inl (omega arith)
no_later-trans (x ∷ xs) (y ∷ ys) (z ∷ zs) (inr (same, first)) (inl below) = inl (omega arith)
no_later-trans (x ∷ xs) (y ∷ ys) (z ∷ zs) (inr (same, first)) (inr (alike, second)) =
    inr (omega arith, no_later-trans xs ys zs first second)

-- the first place from which a whole run can be had, and then the first rest
pub first-run : (R S : ℕ → ℕ → Type 0) (start : ℕ) (rest : List ℕ) → length rest ≡ 8
    → ((k : ℕ) (others : List ℕ) → IsRun R S (k ∷ others) → start ≤ k) → FollowsFirst R S start rest
    → IsFirstOf (IsRun R S) (start ∷ rest)
first-run R S start rest long earliest follows = record {
  has = (long, follows.follows);
  first = λ others run. none_before others run;
} where
  none_before : (others : List ℕ) → IsRun R S others → IsNoLater (start ∷ rest) others
  none_before [] run = absurd run
  none_before (k ∷ others) run =
      let least : start ≤ k = earliest k others run in
      elim (cases_lt start k) [
        | inl before ↦ inl before
        | inr after ↦
            let at : start ≡ k = omega arith in
            let same : length others ≡ length rest = omega (arith, run.0) in
            inr (at, follows.first others same (subst (λ m. Follows R S m others) (sym at) run.1))
      ]

-- of the first run with the one change first and the first with the other, the earlier one is the first of all
pub first-earlier : (P Q : List ℕ → Type 0) (one other found : Option (List ℕ)) → FirstOf P one → FirstOf Q other
    → IsEarlier one other found → FirstOf (λ places. P places ⊎ Q places) found
first-earlier P Q None None found without none is =
    subst (FirstOf (λ places. P places ⊎ Q places)) (sym is) (λ places has. elim has [ inl h ↦ without places h | inr h ↦ none places h ])
first-earlier P Q None (Some other) found without second is =
    subst (FirstOf (λ places. P places ⊎ Q places)) (sym is) (record {
      has = inr second.has;
      first = λ places has. elim has [ inl h ↦ absurd (without places h) | inr h ↦ second.first places h ];
    })
first-earlier P Q (Some one) None found first none is =
    subst (FirstOf (λ places. P places ⊎ Q places)) (sym is) (record {
      has = inl first.has;
      first = λ places has. elim has [ inl h ↦ first.first places h | inr h ↦ absurd (none places h) ];
    })
first-earlier P Q (Some one) (Some other) found first second (inl (is, order)) =
    subst (FirstOf (λ places. P places ⊎ Q places)) (sym is) (record {
      has = inl first.has;
      first = λ places has. elim has [
        | inl h ↦ first.first places h
        | inr h ↦ no_later-trans one other places order (second.first places h)
      ];
    })
first-earlier P Q (Some one) (Some other) found first second (inr (is, order)) =
    subst (FirstOf (λ places. P places ⊎ Q places)) (sym is) (record {
      has = inr second.has;
      first = λ places has. elim has [
        | inl h ↦ no_later-trans other one places order (first.first places h)
        | inr h ↦ second.first places h
      ];
    })
