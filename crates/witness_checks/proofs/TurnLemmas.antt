-- How far tints change in turn: one turn more, and where it ends.
use Rattle.std.proofs.Common.{◌≡◌, ℕ, zero, suc, ◌+◌, ◌-◌, ◌<◌, ◌≤◌, max, Bool, true, false, List, [], ◌∷◌, get_or, length, take, arith, inl, inr, refl, subst, sym}
use Rattle.std.specs.Prelude.{◌⊎◌, not}
use Rattle.std.proofs.lemmas.Bool.{cases_lt}
use Rattle.std.proofs.lemmas.List.{take-take, take_all}
use Rattle.page_model.specs.declared.colour.Tint.{Tint}
use Rattle.page_model.specs.declared.witness.Kind.{Kind}
use Rattle.page_model.specs.declared.witness.Kind.TheVariants.{General, Red}
use Rattle.page_model.specs.Flash.{Alternates}
use Rattle.page_model.specs.WitnessConditions.{AlternatesSurely}
use Rattle.witness_checks.specs.Faults.{IsFirstUnchanged}
use Rattle.witness_checks.specs.Turns.{IsSureChange, TakeTurns, TakeTurnsTo}

-- the front of what alternates does
pub alternates-front : {C : Type 0} (R S : C → C → Type 0) (items : List C) (n : ℕ) → Alternates R S items → Alternates R S (take n items)
alternates-front R S items zero turns = tt
alternates-front R S [] (suc n) turns = tt
alternates-front R S (a ∷ []) (suc zero) turns = tt
alternates-front R S (a ∷ []) (suc (suc n)) turns = tt
alternates-front R S (a ∷ (b ∷ rest)) (suc zero) turns = tt
alternates-front R S (a ∷ (b ∷ rest)) (suc (suc n)) turns = (turns.0, alternates-front S R (b ∷ rest) (suc n) turns.1)

pub alternates-shorter : {C : Type 0} (R S : C → C → Type 0) (items : List C) (m n : ℕ) → m ≤ n → Alternates R S (take n items)
    → Alternates R S (take m items)
alternates-shorter R S items m n less turns =
    subst (Alternates R S) (take-take m n items less) (alternates-front R S (take n items) m turns)

-- no tint has to change yet
alternates-one : {C : Type 0} (R S : C → C → Type 0) (items : List C) → Alternates R S (take 1 items)
alternates-one R S [] = tt
alternates-one R S (a ∷ rest) = tt

-- which change comes after so many, where the one or the other is first
abbrev pub turned : ℕ → Bool → Bool
turned zero rise = rise
turned (suc n) rise = turned n (not rise)

turned-not : (n : ℕ) (rise : Bool) → not (turned n rise) ≡ turned n (not rise)
turned-not zero rise = refl
turned-not (suc n) rise = turned-not n (not rise)

-- one change more, and back
longer : (kind : Kind) (forwards : Bool) (tints : List Tint) (n : ℕ) (d : Tint) → suc n < length tints → TakeTurns kind forwards (take (suc n) tints)
    → IsSureChange kind (turned n forwards) (get_or tints n d) (get_or tints (suc n) d) → TakeTurns kind forwards (take (suc (suc n)) tints)
longer kind forwards [] n d within held change = tt
longer kind forwards (a ∷ []) n d within held change = absurd (omega arith)
longer kind forwards (a ∷ (b ∷ rest)) zero d within held change = (change, tt)
longer kind true (a ∷ (b ∷ rest)) (suc n) d within held change = (held.0, longer kind false (b ∷ rest) n d (omega arith) held.1 change)
longer kind false (a ∷ (b ∷ rest)) (suc n) d within held change = (held.0, longer kind true (b ∷ rest) n d (omega arith) held.1 change)

last-change : (kind : Kind) (forwards : Bool) (tints : List Tint) (n : ℕ) (d : Tint) → suc n < length tints → TakeTurns kind forwards (take (suc (suc n)) tints)
    → IsSureChange kind (turned n forwards) (get_or tints n d) (get_or tints (suc n) d)
last-change kind forwards [] n d within held = absurd (omega arith)
last-change kind forwards (a ∷ []) n d within held = absurd (omega arith)
last-change kind forwards (a ∷ (b ∷ rest)) zero d within held = held.0
last-change kind true (a ∷ (b ∷ rest)) (suc n) d within held = last-change kind false (b ∷ rest) n d (omega arith) held.1
last-change kind false (a ∷ (b ∷ rest)) (suc n) d within held = last-change kind true (b ∷ rest) n d (omega arith) held.1

-- so many tints have been seen to change in turn, and which change has to come next
pub record IsTurned (kind : Kind) (first : Bool) (tints : List Tint) (turn : ℕ) (forwards : Bool) : Type 0 where
  pub changes : ℕ
  pub number : suc changes ≡ turn
  pub few : turn ≤ length tints
  pub next : turned changes first ≡ forwards
  pub held : TakeTurns kind first (take turn tints)

pub turned-none : (kind : Kind) (forwards : Bool) (tints : List Tint) → length tints ≡ 9 → IsTurned kind forwards tints 1 forwards
turned-none kind forwards tints nine = record {
  changes = 0;
  number = refl;
  few = omega arith;
  next = refl;
  held = alternates-one (IsSureChange kind forwards) (IsSureChange kind (not forwards)) tints;
}

next-change : (kind : Kind) (tints : List Tint) (n turn : ℕ) (forwards next : Bool) (d : Tint) → suc n ≡ turn → next ≡ forwards
    → IsSureChange kind forwards (get_or tints (turn - 1) d) (get_or tints turn d) → IsSureChange kind next (get_or tints n d) (get_or tints (suc n) d)
next-change kind tints n turn forwards next d number same change =
    let before : turn - 1 ≡ n = omega arith in
    subst (λ (r : Bool). IsSureChange kind r (get_or tints n d) (get_or tints (suc n) d)) (sym same)
    (subst (λ (k : ℕ). IsSureChange kind forwards (get_or tints n d) (get_or tints k d)) (sym number)
    (subst (λ (k : ℕ). IsSureChange kind forwards (get_or tints k d) (get_or tints turn d)) before change))

pub turned-more : (kind : Kind) (first : Bool) (tints : List Tint) (turn : ℕ) (forwards : Bool) (d : Tint) → IsTurned kind first tints turn forwards
    → turn < length tints → IsSureChange kind forwards (get_or tints (turn - 1) d) (get_or tints turn d) → IsTurned kind first tints (turn + 1) (not forwards)
turned-more kind first tints turn forwards d is within change =
    let number = is.number in
    let more : suc turn ≡ turn + 1 = omega arith in record {
      changes = suc is.changes;
      number = omega arith;
      few = omega arith;
      next = subst (λ (r : Bool). turned is.changes (not first) ≡ not r) is.next (sym (turned-not is.changes first));
      held = subst (λ (k : ℕ). TakeTurns kind first (take k tints)) more
          (subst (λ (k : ℕ). TakeTurns kind first (take (suc k) tints)) number
          (longer kind first tints is.changes d (omega arith)
          (subst (λ (k : ℕ). TakeTurns kind first (take k tints)) (sym number) is.held)
          (next-change kind tints is.changes turn forwards (turned is.changes first) d number is.next change)));
    }

back-change : (kind : Kind) (tints : List Tint) (n turn : ℕ) (forwards next : Bool) (d : Tint) → suc n ≡ turn → next ≡ forwards
    → IsSureChange kind next (get_or tints n d) (get_or tints (suc n) d) → IsSureChange kind forwards (get_or tints (turn - 1) d) (get_or tints turn d)
back-change kind tints n turn forwards next d number same change =
    let before : n ≡ turn - 1 = omega arith in
    subst (λ (k : ℕ). IsSureChange kind forwards (get_or tints k d) (get_or tints turn d)) before
    (subst (λ (k : ℕ). IsSureChange kind forwards (get_or tints n d) (get_or tints k d)) number
    (subst (λ (r : Bool). IsSureChange kind r (get_or tints n d) (get_or tints (suc n) d)) same change))

pub turned-stops : (kind : Kind) (first : Bool) (tints : List Tint) (turn : ℕ) (forwards : Bool) (d : Tint) → IsTurned kind first tints turn forwards
    → (IsSureChange kind forwards (get_or tints (turn - 1) d) (get_or tints turn d) → ⊥) → TakeTurnsTo kind first tints turn
turned-stops kind first tints turn forwards d is stops =
    let number = is.number in
    let more : turn + 1 ≡ suc turn = omega arith in record {
      some = omega arith;
      few = is.few;
      held = is.held;
      broken = λ within turns. stops (back-change kind tints is.changes turn forwards (turned is.changes first) d number is.next
          (last-change kind first tints is.changes d (omega arith)
          (subst (λ (k : ℕ). TakeTurns kind first (take (suc k) tints)) (sym number)
          (subst (λ (k : ℕ). TakeTurns kind first (take k tints)) more turns))));
    }

pub turned-all : (kind : Kind) (first : Bool) (tints : List Tint) (turn : ℕ) (forwards : Bool) → IsTurned kind first tints turn forwards → length tints ≤ turn
    → TakeTurnsTo kind first tints (length tints)
turned-all kind first tints turn forwards is past =
    let same : turn ≡ length tints = let few = is.few in omega arith in
    let number = is.number in record {
      some = omega arith;
      few = omega arith;
      held = subst (λ (k : ℕ). TakeTurns kind first (take k tints)) same is.held;
      broken = λ within turns. omega arith;
    }

-- what a part's tints owe is that they take turns either way, whatever its kind is
surely-by : (kind : Kind) (tints : List Tint) → TakeTurns kind true tints ⊎ TakeTurns kind false tints → AlternatesSurely kind tints
surely-by General tints turns = turns
surely-by Red tints turns = turns

by-surely : (kind : Kind) (tints : List Tint) → AlternatesSurely kind tints → TakeTurns kind true tints ⊎ TakeTurns kind false tints
by-surely General tints turns = turns
by-surely Red tints turns = turns

-- the further of the two ways
further : (kind : Kind) (tints : List Tint) (a b : ℕ) → TakeTurnsTo kind true tints a → TakeTurnsTo kind false tints b
    → AlternatesSurely kind (take (max a b) tints)
further kind tints a b up down =
    elim (cases_lt a b) [
      | inl less ↦
          let same : b ≡ max a b = omega arith in
          surely-by kind (take (max a b) tints) (inr (subst (λ (k : ℕ). TakeTurns kind false (take k tints)) same down.held))
      | inr more ↦
          let same : a ≡ max a b = omega arith in
          surely-by kind (take (max a b) tints) (inl (subst (λ (k : ℕ). TakeTurns kind true (take k tints)) same up.held))
    ]

-- neither way goes on
neither-way : (kind : Kind) (tints : List Tint) (a b : ℕ) → TakeTurnsTo kind true tints a → TakeTurnsTo kind false tints b
    → max a b < length tints → TakeTurns kind true (take (max a b + 1) tints) ⊎ TakeTurns kind false (take (max a b + 1) tints) → ⊥
neither-way kind tints a b up down within (inl turns) =
    up.broken (omega arith)
    (alternates-shorter (IsSureChange kind true) (IsSureChange kind false) tints (a + 1) (max a b + 1) (omega arith) turns)
neither-way kind tints a b up down within (inr turns) =
    down.broken (omega arith)
    (alternates-shorter (IsSureChange kind false) (IsSureChange kind true) tints (b + 1) (max a b + 1) (omega arith) turns)

pub unchanged-at : (kind : Kind) (tints : List Tint) (a b : ℕ) → TakeTurnsTo kind true tints a → TakeTurnsTo kind false tints b → max a b < length tints
    → IsFirstUnchanged kind tints (max a b)
unchanged-at kind tints a b up down within = record {
  from_one = let some = up.some in omega arith;
  held = further kind tints a b up down;
  broken = λ turns. neither-way kind tints a b up down within (by-surely kind (take (max a b + 1) tints) turns);
}

pub changed-all : (kind : Kind) (tints : List Tint) (a b : ℕ) → TakeTurnsTo kind true tints a → TakeTurnsTo kind false tints b → length tints ≤ max a b
    → AlternatesSurely kind tints
changed-all kind tints a b up down past =
    subst (AlternatesSurely kind) (take_all (max a b) tints past) (further kind tints a b up down)
