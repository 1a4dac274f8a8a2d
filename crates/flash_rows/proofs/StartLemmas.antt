-- The latest of some starts, and how that of one change more comes from those of the frames before.
use Rattle.std.proofs.Common.{ℕ, zero, suc, ◌≡◌, ◌⊎◌, ◌+◌, ◌-◌, ◌<◌, ◌≤◌, arith, inl, inr, refl, subst, ap}
use Rattle.std.specs.Prelude.{min}
use Rattle.std.proofs.lemmas.Bool.{cases_lt}
use Rattle.flash_rows.specs.Starts.{IsLatest, Leads}

-- there are no starts
pub latest-none : (P : ℕ → Type 0) (window frame : ℕ) → ((s : ℕ) → P s → ⊥) → IsLatest P window frame (window + 1)
latest-none P window frame none = record {
  capped = omega arith;
  there = λ few. absurd (omega arith);
  latest = λ s is near. absurd (none s is);
}

-- the frame itself is the only start
pub latest-self : (window frame : ℕ) → IsLatest (λ s. s ≡ frame) window frame 0
latest-self window frame = record {
  capped = omega arith;
  there = λ few. (frame, omega arith, refl);
  latest = λ s is near. omega arith;
}

-- starts of two sorts
pub latest-both : (P Q : ℕ → Type 0) (window frame a b : ℕ) → IsLatest P window frame a → IsLatest Q window frame b
    → IsLatest (λ s. P s ⊎ Q s) window frame (min a b)
latest-both P Q window frame a b one other = record {
  capped = omega (arith, one.capped);
  there = λ few. elim (cases_lt a b) [
    | inl less ↦
        let least : min a b ≡ a = omega arith in
        let found = one.there (omega arith) in
        (found.0, omega (arith, found.1), inl found.2)
    | inr more ↦
        let least : min a b ≡ b = omega arith in
        let found = other.there (omega arith) in
        (found.0, omega (arith, found.1), inr found.2)
  ];
  latest = λ s is near. elim is [
    | inl p ↦ omega (arith, one.latest s p near)
    | inr q ↦ omega (arith, other.latest s q near)
  ];
}

-- the same starts, seen from some frames later
pub latest-later : (P : ℕ → Type 0) (window frame later steps number : ℕ) → IsLatest P window frame number → frame + steps ≡ later
    → IsLatest P window later (min (number + steps) (window + 1))
latest-later P window frame later steps number is at = record {
  capped = omega arith;
  there = λ few. let found = is.there (omega arith) in (found.0, omega (arith, found.1), found.2);
  latest = λ s p near. omega (arith, is.latest s p (omega arith));
}

-- other starts, of which each near one has a start that is no earlier
pub latest-same : (P Q : ℕ → Type 0) (window frame number : ℕ) → ((s : ℕ) → P s → Q s)
    → ((s : ℕ) → Q s → frame ≤ s + window → (later : ℕ) × (s ≤ later) × P later) → IsLatest P window frame number
    → IsLatest Q window frame number
latest-same P Q window frame number one other is = record {
  capped = is.capped;
  there = λ few. let found = is.there few in (found.0, found.1, one found.0 found.2);
  latest = λ s q near.
      let found = other s q near in
      omega (arith, found.1, is.latest found.0 found.2 (omega (arith, found.1)));
}

-- changes lead forwards
pub leads-forwards : (R S : ℕ → ℕ → Type 0) (n start end : ℕ) → Leads R S n start end → start ≤ end
leads-forwards R S zero start end leads = omega arith
leads-forwards R S (suc n) start end (middle, before, change, leads) =
    let far = leads-forwards S R n start middle leads in omega arith

-- a move of frames, which keeps each change between some frame and another, moves changes in turn
pub leads-moved : (R S R' S' : ℕ → ℕ → Type 0) (f : ℕ → ℕ) (n start end low high : ℕ)
    → ((j k : ℕ) → low ≤ j → j < k → k ≤ high → R j k → (f j < f k) × R' (f j) (f k))
    → ((j k : ℕ) → low ≤ j → j < k → k ≤ high → S j k → (f j < f k) × S' (f j) (f k))
    → low ≤ start → end ≤ high → Leads R S n start end → Leads R' S' n (f start) (f end)
leads-moved R S R' S' f zero start end low high one other from within leads = ap f leads
leads-moved R S R' S' f (suc n) start end low high one other from within (middle, before, change, leads) =
    let forwards = leads-forwards S R n start middle leads in
    let moved = one middle end (omega arith) before within change in
    (f middle, moved.0, moved.1, leads-moved S R S' R' f n start middle low high other one from (omega arith) leads)

-- so many changes and one more lead to an end by way of a frame from some frame on
abbrev pub Through : (ℕ → ℕ → Type 0) → (ℕ → ℕ → Type 0) → ℕ → ℕ → ℕ → ℕ → Type 0
Through R S n low end start = (middle : ℕ) × (low ≤ middle) × (middle < end) × R middle end × Leads S R n start middle

-- no frame was looked at
pub through-none : (R S : ℕ → ℕ → Type 0) (n low end window : ℕ) → end ≤ low → IsLatest (Through R S n low end) window end (window + 1)
through-none R S n low end window past =
    latest-none (Through R S n low end) window end (λ s (middle, from, before, change, leads). omega arith)

-- one frame more that makes the change
pub through-made : (R S : ℕ → ℕ → Type 0) (n frame low end window steps best number least : ℕ) → frame + 1 ≡ low → frame + steps ≡ end
    → 0 < steps → R frame end → IsLatest (Through R S n low end) window end best → IsLatest (λ s. Leads S R n s frame) window frame number
    → least ≡ min best (number + steps) → IsLatest (Through R S n frame end) window end least
through-made R S n frame low end window steps best number least next at some change before here is =
    let both = latest-both (Through R S n low end) (λ s. Leads S R n s frame) window end best (min (number + steps) (window + 1)) before
    (latest-later (λ s. Leads S R n s frame) window frame end steps number here at) in
    let same : min best (min (number + steps) (window + 1)) ≡ least = omega (arith, before.capped) in
    latest-same (λ s. Through R S n low end s ⊎ Leads S R n s frame) (Through R S n frame end) window end least
    (λ s is_one. elim is_one [
      | inl through ↦ (through.0, omega (arith, through.1), through.2, through.3, through.4)
      | inr leads ↦ (frame, omega arith, omega arith, change, leads)
    ])
    (λ s through near. (
      s,
      omega arith,
      elim (cases_lt frame through.0) [
        | inl later ↦ inl (through.0, omega arith, through.2, through.3, through.4)
        | inr first ↦
            let there : through.0 ≡ frame = omega (arith, through.1) in
            inr (subst (λ m. Leads S R n s m) there through.4)
      ],
    ))
    (subst (IsLatest (λ s. Through R S n low end s ⊎ Leads S R n s frame) window end) same both)

-- or that makes none
pub through-kept : (R S : ℕ → ℕ → Type 0) (n frame low end window best : ℕ) → frame + 1 ≡ low → (R frame end → ⊥)
    → IsLatest (Through R S n low end) window end best → IsLatest (Through R S n frame end) window end best
through-kept R S n frame low end window best next none before =
    latest-same (Through R S n low end) (Through R S n frame end) window end best
    (λ s through. (through.0, omega (arith, through.1), through.2, through.3, through.4))
    (λ s through near. (
      s,
      omega arith,
      elim (cases_lt frame through.0) [
        | inl later ↦ (through.0, omega arith, through.2, through.3, through.4)
        | inr first ↦
            let there : through.0 ≡ frame = omega (arith, through.1) in
            absurd (none (subst (λ m. R m end) there through.3))
      ],
    ))
    before

-- all frames that can matter were looked at
pub through-all : (R S : ℕ → ℕ → Type 0) (n low end window best : ℕ) → low ≤ end - window → IsLatest (Through R S n low end) window end best
    → IsLatest (λ s. Leads R S (suc n) s end) window end best
through-all R S n low end window best far is =
    latest-same (Through R S n low end) (λ s. Leads R S (suc n) s end) window end best
    (λ s through. (through.0, through.2, through.3, through.4))
    (λ s leads near.
    let forwards = leads-forwards S R n s leads.0 leads.3 in
    (s, omega arith, (leads.0, omega (arith, forwards), leads.1, leads.2, leads.3)))
    is
