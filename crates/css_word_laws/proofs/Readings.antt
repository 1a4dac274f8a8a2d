-- A result that gives what is spelled, by its parts.
use Rattle.std.proofs.Common.{Bool, true, false, ◌≡◌, List, Option, Some, None, Result, Ok, Err, cond, refl, ap, subst}
use Rattle.css_words.specs.declared.fault.ValueFault.{ValueFault}
use Rattle.css_words.specs.declared.fault.ValueFault.TheVariants.{BadValue, OverLimit, NoMemory}
use Rattle.css_words.specs.Words.{Word, or_bad, mapped}
use Rattle.css_word_laws.specs.ValueLaws.{Agrees}

pub record Reads {A : Type 0} (r : Result A ValueFault) (S : A → Type 0) (P : Type 0) : Type 0 where
  pub ok_to : (v : A) → r ≡ Ok v → S v
  pub past_to : r ≡ Err OverLimit → P
  pub kept : r ≡ Err NoMemory → ⊥
  pub ok_from : (v : A) → S v → r ≡ Ok v
  pub past_from : P → r ≡ Err OverLimit

-- where no value is spelled
pub reads_bad : {A : Type 0} (S : A → Type 0) (P : Type 0) → ((v : A) → S v → ⊥) → (P → ⊥) → Reads {A = A} (Err BadValue) S P
reads_bad S P none inside = record {
  ok_to = λ v e. absurd (cc);
  past_to = λ e. absurd (cc);
  kept = λ e. cc;
  ok_from = λ v s. absurd (none v s);
  past_from = λ p. absurd (inside p);
}

pub reads_ok : {A : Type 0} (S : A → Type 0) (P : Type 0) (x : A) → S x → ((v : A) → S v → x ≡ v) → (P → ⊥) → Reads {A = A} (Ok x) S P
reads_ok S P x is one inside = record {
  ok_to = λ v e. let same : x ≡ v = cc in subst S same is;
  past_to = λ e. absurd (cc);
  kept = λ e. cc;
  ok_from = λ v s. ap (λ t. Ok t) (one v s);
  past_from = λ p. absurd (inside p);
}

pub reads_over : {A : Type 0} (S : A → Type 0) (P : Type 0) → P → ((v : A) → S v → ⊥) → Reads {A = A} (Err OverLimit) S P
reads_over S P over none = record {
  ok_to = λ v e. absurd (cc);
  past_to = λ e. over;
  kept = λ e. cc;
  ok_from = λ v s. absurd (none v s);
  past_from = λ p. refl;
}

pub reads_like : {A : Type 0} {r : Result A ValueFault} {S : A → Type 0} {P : Type 0} (T : A → Type 0) (Q : Type 0) → Reads r S P
    → ((v : A) → S v → T v) → ((v : A) → T v → S v) → (P → Q) → (Q → P) → Reads r T Q
reads_like T Q reads to from past_to past_from = record {
  ok_to = λ v e. to v (reads.ok_to v e);
  past_to = λ e. past_to (reads.past_to e);
  kept = λ e. reads.kept e;
  ok_from = λ v t. reads.ok_from v (from v t);
  past_from = λ q. reads.past_from (past_from q);
}

-- what a value becomes
abbrev pub Becomes : {A B : Type 0} → (A → B) → (A → Type 0) → B → Type 0
Becomes {A} f S w = (v : A) × (S v) × (f v ≡ w)

pub reads_mapped : {A B : Type 0} (f : A → B) (r : Result A ValueFault) (S : A → Type 0) (P : Type 0) → Reads r S P
    → Reads (mapped f r) (Becomes f S) P
reads_mapped f (Ok x) S P reads = record {
  ok_to = λ w e. (x, reads.ok_to x refl, cc);
  past_to = λ e. absurd (cc);
  kept = λ e. cc;
  ok_from = λ w s. let same = reads.ok_from s.0 s.1 in let as_well = s.2 in cc;
  past_from = λ p. absurd (let e = reads.past_from p in cc);
}
reads_mapped f (Err fault) S P reads = record {
  ok_to = λ w e. absurd (cc);
  past_to = λ e. reads.past_to (let same : fault ≡ OverLimit = cc in ap (λ t. Err t) same);
  kept = λ e. reads.kept (let same : fault ≡ NoMemory = cc in ap (λ t. Err t) same);
  ok_from = λ w s. absurd (let same = reads.ok_from s.0 s.1 in cc);
  past_from = λ p. let e = reads.past_from p in let same : fault ≡ OverLimit = cc in ap (λ t. Err t) same;
}

pub reads_if : {A : Type 0} (b : Bool) (p q : Result A ValueFault) (S : A → Type 0) (P : Type 0) → (b ≡ true → Reads p S P) → (b ≡ false → Reads q S P)
    → Reads (cond b p q) S P
reads_if true p q S P first second = first refl
reads_if false p q S P first second = second refl

pub reads_of : {A B : Type 0} (o : Option A) (f : A → Result B ValueFault) (S : B → Type 0) (P : Type 0) → (o ≡ None → Reads (Err BadValue) S P)
    → ((a : A) → o ≡ Some a → Reads (f a) S P) → Reads (or_bad o f) S P
reads_of None f S P none some = none refl
reads_of (Some a) f S P none some = some a refl

pub agrees : {A : Type 0} (reading : List Word → Result A ValueFault) (S : List Word → A → Type 0) (P : List Word → Type 0)
    → ((words : List Word) → Reads (reading words) (S words) (P words)) → Agrees reading S P
agrees {A} reading S P reads = record {
  given = λ words v. ((reads words).ok_to v, (reads words).ok_from v);
  over = λ words. ((reads words).past_to, (reads words).past_from);
  bad = λ words. (refused words, bad_from words (reading words) (reads words));
  one = λ words v w s t. let e = (reads words).ok_from v s in let f = (reads words).ok_from w t in cc;
  apart = λ words v s p. let e = (reads words).ok_from v s in let f = (reads words).past_from p in cc;
} where
  refused : (words : List Word) → reading words ≡ Err BadValue → ((v : A) → S words v → ⊥) × (P words → ⊥)
  refused words e = (
    λ v s. let f = (reads words).ok_from v s in cc,
    λ p. let f = (reads words).past_from p in cc,
  )

  bad_from : (words : List Word) (r : Result A ValueFault) → Reads r (S words) (P words) → ((v : A) → S words v → ⊥) × (P words → ⊥) → r ≡ Err BadValue
  bad_from words (Ok v) is none = absurd (none.0 v (is.ok_to v refl))
  bad_from words (Err BadValue) is none = refl
  bad_from words (Err OverLimit) is none = absurd (none.1 (is.past_to refl))
  bad_from words (Err NoMemory) is none = absurd (is.kept refl)
