-- Runs of bytes of a class: what a run takes, and that it takes all that it could.
use Rattle.std.proofs.Common.{ℕ, ◌≡◌, ◌<◌, ◌⊎◌, ◌∙◌, Bool, true, false, cond, ◌&&◌, ◌||◌, List, [], ◌∷◌, ◌++◌, length, Some, refl, ap, inl, inr, arith}
use Rattle.std.specs.List.{list_all}
use Rattle.std.proofs.lemmas.Bool.{cases_Bool}
use Rattle.std.proofs.lemmas.Option.{cond_some}
use Rattle.style_tokens.specs.CssReading.{skip, run_at}

pub both : (a b : Bool) → (a && b) ≡ true → (a ≡ true) × (b ≡ true)
both true b h = (refl, h)
both false b h = absurd (cc)

pub neither : (a b : Bool) → (a || b) ≡ false → (a ≡ false) × (b ≡ false)
neither true b h = absurd (cc)
neither false b h = (refl, h)

-- the front of some bytes is a word of this sort, and leaves the rest
pub record Taken (P : List ℕ → Type 0) (bytes rest : List ℕ) : Type 0 where
  pub word : List ℕ
  pub is : P word
  pub split : bytes ≡ word ++ rest

-- a rest is another one, or shorter
abbrev pub Within : List ℕ → List ℕ → Type 0
Within a b = (a ≡ b) ⊎ (length a < length b)

pub within_shorter : (a b : List ℕ) (x : ℕ) → Within a b → length a < length (x ∷ b)
within_shorter a b x (inl same) = rw same (omega arith)
within_shorter a b x (inr less) = omega arith

pub within_within : (a b c : List ℕ) → Within a b → Within b c → Within a c
within_within a b c (inl same) h = rw same h
within_within a b c (inr less) (inl same) = inr (rw (← same) less)
within_within a b c (inr less) (inr more) = inr (omega arith)

pub skip_over : (p : ℕ → Bool) (word rest : List ℕ) → list_all p word ≡ true → skip p (word ++ rest) ≡ skip p rest
skip_over p [] rest all = refl
skip_over p (b ∷ word) rest all =
    let parts = both (p b) (list_all p word) all in
    rw parts.0 (skip_over p word rest parts.1)

pub skip_within : (p : ℕ → Bool) (rest : List ℕ) → Within (skip p rest) rest
skip_within p [] = inl refl
skip_within p (b ∷ rest) =
    elim (p b) as (λ v. Within (cond v (skip p rest) (b ∷ rest)) (b ∷ rest)) [
      | true ↦ inr (within_shorter (skip p rest) rest b (skip_within p rest))
      | false ↦ inl refl
    ]

-- the bytes that a run skips
abbrev pub skipped : (ℕ → Bool) → List ℕ → List ℕ
skipped p [] = []
skipped p (b ∷ rest) = cond (p b) (b ∷ skipped p rest) []

pub skipped_all : (p : ℕ → Bool) (bytes : List ℕ) → list_all p (skipped p bytes) ≡ true
skipped_all p [] = refl
skipped_all p (b ∷ rest) =
    elim (cases_Bool (p b)) [
      | inl yes_it ↦ rw (yes_it, yes_it) (skipped_all p rest)
      | inr no_it ↦ rw no_it refl
    ]

pub skipped_split : (p : ℕ → Bool) (bytes : List ℕ) → bytes ≡ skipped p bytes ++ skip p bytes
skipped_split p [] = refl
skipped_split p (b ∷ rest) =
    elim (p b) as (λ v. b ∷ rest ≡ cond v (b ∷ skipped p rest) [] ++ cond v (skip p rest) (b ∷ rest)) [
      | true ↦ ap (λ t. b ∷ t) (skipped_split p rest)
      | false ↦ refl
    ]

-- a byte of one class, and bytes of another behind it
pub data IsRun (first more : ℕ → Bool) : List ℕ → Type 0 where
  run : (byte : ℕ) (word : List ℕ) → first byte ≡ true → list_all more word ≡ true → IsRun first more (byte ∷ word)

pub run_takes : (first more : ℕ → Bool) (bytes rest : List ℕ) → run_at first more bytes ≡ Some rest → Taken (IsRun first more) bytes rest
unfolding run_at
run_takes first more [] rest e = absurd (cc)
run_takes first more (b ∷ bytes) rest e =
    let parts = cond_some (first b) (skip more bytes) rest e in
    record {
      word = b ∷ skipped more bytes;
      is = run b (skipped more bytes) parts.0 (skipped_all more bytes);
      split = ap (λ t. b ∷ t) (skipped_split more bytes ∙ ap (λ t. skipped more bytes ++ t) parts.1);
    }

pub run_reaches : (first more : ℕ → Bool) (word rest : List ℕ) → IsRun first more word → run_at first more (word ++ rest) ≡ Some (skip more rest)
unfolding run_at
run_reaches first more word rest (run b tail is_first are_more) = rw is_first (ap Some (skip_over more tail rest are_more))
