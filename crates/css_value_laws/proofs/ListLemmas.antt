-- Lists that are read are those that are spelled.
use Rattle.std.proofs.Common.{ℕ, ◌≡◌, ◌∙◌, ◌⊎◌, ◌&&◌, not, Bool, true, false, cond, List, [], ◌∷◌, ◌++◌, map, Option, Some, None, Result, Ok, Err, refl, ap, sym, subst, inl, inr}
use Rattle.std.proofs.lemmas.Bool.{cases_Bool}
use Rattle.style_tokens.specs.declared.token.CssKind.{CssKind}
use Rattle.style_tokens.specs.declared.token.CssKind.TheVariants.{Comma}
use Rattle.css_words.specs.declared.fault.ValueFault.{ValueFault}
use Rattle.css_words.specs.declared.fault.ValueFault.TheVariants.{BadValue, OverLimit, NoMemory}
use Rattle.css_items.specs.Lists.{goes_in, before_first, pieces, with_item, gather, list_of}
use Rattle.css_words.specs.Words.{Word, is_comma}
use Rattle.css_value_laws.specs.SpelledLists.{IsList, IsMarked, HasPast, IsPastList}
use Rattle.css_value_laws.specs.SpelledLists.IsList.{last, more}
use Rattle.css_word_laws.specs.SpelledNumbers.{word}
use Rattle.css_word_laws.proofs.Readings.{Reads}

-- no comma stands outside parentheses, and each is closed
abbrev pub closes : Bool → List Word → Bool
closes inside [] = not inside
closes inside (w ∷ rest) = cond (not inside && is_comma w.kind) false (closes (goes_in inside w.kind) rest)

closed_before : (inside : Bool) (item : List Word) (comma : List ℕ) (rest : List Word) → closes inside item ≡ true
    → pieces inside (item ++ (word Comma comma ∷ rest)) ≡ item ∷ pieces false rest
closed_before true [] comma rest e = absurd (cc)
closed_before false [] comma rest e = refl
closed_before inside (w ∷ item) comma rest e = elim (cases_Bool (not inside && is_comma w.kind)) [
  | inl is ↦ absurd (let f : false ≡ true = rw is at e in cc)
  | inr other ↦ let f : closes (goes_in inside w.kind) item ≡ true = rw other at e in
      rw (other, closed_before (goes_in inside w.kind) item comma rest f) refl
]

closed_alone : (inside : Bool) (item : List Word) → closes inside item ≡ true → pieces inside item ≡ item ∷ []
closed_alone inside [] e = refl
closed_alone inside (w ∷ item) e = elim (cases_Bool (not inside && is_comma w.kind)) [
  | inl is ↦ absurd (let f : false ≡ true = rw is at e in cc)
  | inr other ↦ let f : closes (goes_in inside w.kind) item ≡ true = rw other at e in
      rw (other, closed_alone (goes_in inside w.kind) item f) refl
]

-- pieces with commas between
data IsJoined : List Word → List (List Word) → Type 0 where
  whole : (item : List Word) → IsJoined item (item ∷ [])
  joined : (item : List Word) (comma : List ℕ) (rest : List Word) (others : List (List Word)) → IsJoined rest others
      → IsJoined (item ++ (word Comma comma ∷ rest)) (item ∷ others)

in_front : (w : Word) (words : List Word) (parts : List (List Word)) → IsJoined words parts → IsJoined (w ∷ words) (before_first w parts)
in_front w words parts (whole item) = whole (w ∷ item)
in_front w words parts (joined item comma rest others tail) = joined (w ∷ item) comma rest others tail

is_comma_word : (k : CssKind) (b : List ℕ) → is_comma k ≡ true → word k b ≡ word Comma b
is_comma_word Comma b e = refl
is_comma_word k b e = absurd (cc)

and_right_true : (a b : Bool) → (a && b) ≡ true → b ≡ true
and_right_true true b e = e
and_right_true false b e = absurd (cc)

pieces_joined : (inside : Bool) (words : List Word) → IsJoined words (pieces inside words)
pieces_joined inside [] = whole []
pieces_joined inside (w ∷ rest) = elim (cases_Bool (not inside && is_comma w.kind)) [
  | inl is ↦ let same : w ≡ word Comma w.bytes = is_comma_word w.kind w.bytes (and_right_true (not inside) (is_comma w.kind) is) in
      rw is (subst (λ v. IsJoined (v ∷ rest) ([] ∷ pieces false rest)) (sym same) (joined [] w.bytes rest (pieces false rest) (pieces_joined false rest)))
  | inr other ↦ rw other (in_front w rest (pieces (goes_in inside w.kind) rest) (pieces_joined (goes_in inside w.kind) rest))
]

-- what marks give
abbrev mark_of : {A : Type 0} → Option A → Result A ValueFault
mark_of (Some v) = Ok v
mark_of None = Err OverLimit

abbrev outcome : {A : Type 0} → List (Option A) → Result (List A) ValueFault
outcome [] = Ok []
outcome (m ∷ ms) = with_item (mark_of m) (outcome ms)

-- a list is wrong, or has these marks
record IsRead {A : Type 0} (S : List Word → A → Type 0) (P : List Word → Type 0) (words : List Word) (r : Result (List A) ValueFault) : Type 0 where
  pub marks : List (Option A)
  pub items : IsList (IsMarked S P) words marks
  pub gives : r ≡ outcome marks

abbrev Judged : {A : Type 0} → (List Word → A → Type 0) → (List Word → Type 0) → List Word → Result (List A) ValueFault → Type 0
Judged S P words r = (r ≡ Err BadValue) ⊎ IsRead S P words r

last_judged : {A : Type 0} (S : List Word → A → Type 0) (P : List Word → Type 0) (item : List Word) (r : Result A ValueFault) → Reads r (S item) (P item)
    → Judged S P item (with_item r (Ok []))
last_judged S P item (Ok v) reads = inr (record { marks = Some v ∷ []; items = last item (Some v) (reads.ok_to v refl); gives = refl })
last_judged S P item (Err OverLimit) reads = inr (record { marks = None ∷ []; items = last item None (reads.past_to refl); gives = refl })
last_judged S P item (Err BadValue) reads = inl refl
last_judged S P item (Err NoMemory) reads = absurd (reads.kept refl)

more_judged : {A : Type 0} (S : List Word → A → Type 0) (P : List Word → Type 0) (item rest : List Word) (comma : List ℕ) (r : Result A ValueFault)
    (others : Result (List A) ValueFault) → Reads r (S item) (P item) → Judged S P rest others → Judged S P (item ++ (word Comma comma ∷ rest)) (with_item r others)
more_judged S P item rest comma (Err BadValue) others reads judged = inl refl
more_judged S P item rest comma (Err NoMemory) others reads judged = absurd (reads.kept refl)
more_judged S P item rest comma (Ok v) others reads (inl bad) = inl (rw bad refl)
more_judged S P item rest comma (Ok v) others reads (inr read) = inr (record {
  marks = Some v ∷ read.marks;
  items = more item comma rest (Some v) read.marks (reads.ok_to v refl) read.items;
  gives = ap (λ t. with_item (Ok v) t) read.gives;
})
more_judged S P item rest comma (Err OverLimit) others reads (inl bad) = inl (rw bad refl)
more_judged S P item rest comma (Err OverLimit) others reads (inr read) = inr (record {
  marks = None ∷ read.marks;
  items = more item comma rest None read.marks (reads.past_to refl) read.items;
  gives = ap (λ t. with_item (Err OverLimit) t) read.gives;
})

judged : {A : Type 0} (item : List Word → Result A ValueFault) (S : List Word → A → Type 0) (P : List Word → Type 0)
    → ((words : List Word) → Reads (item words) (S words) (P words)) → (words : List Word) (parts : List (List Word)) → IsJoined words parts
    → Judged S P words (gather (map item parts))
judged item S P reads words parts (whole w) = last_judged S P w (item w) (reads w)
judged item S P reads words parts (joined w comma rest others tail) =
    more_judged S P w rest comma (item w) (gather (map item others)) (reads w) (judged item S P reads rest others tail)

-- what is marked closes
abbrev pub Closes : {A : Type 0} → (List Word → A → Type 0) → (List Word → Type 0) → Type 0
Closes {A} S P = ((words : List Word) (v : A) → S words v → closes false words ≡ true) × ((words : List Word) → P words → closes false words ≡ true)

pub mark_closes : {A : Type 0} (S : List Word → A → Type 0) (P : List Word → Type 0) → Closes S P → (words : List Word) (m : Option A) → IsMarked S P words m
    → closes false words ≡ true
mark_closes S P closing words (Some v) is = closing.0 words v is
mark_closes S P closing words None is = closing.1 words is

mark_read : {A : Type 0} (r : Result A ValueFault) (S : List Word → A → Type 0) (P : List Word → Type 0) (words : List Word) (m : Option A) → Reads r (S words) (P words)
    → IsMarked S P words m → r ≡ mark_of m
mark_read r S P words (Some v) reads is = reads.ok_from v is
mark_read r S P words None reads is = reads.past_from is

marks_read : {A : Type 0} (item : List Word → Result A ValueFault) (S : List Word → A → Type 0) (P : List Word → Type 0)
    → ((words : List Word) → Reads (item words) (S words) (P words)) → Closes S P → (words : List Word) (marks : List (Option A)) → IsList (IsMarked S P) words marks
    → gather (map item (pieces false words)) ≡ outcome marks
marks_read item S P reads closing words marks (last w m is) =
    rw (closed_alone false w (mark_closes S P closing w m is), mark_read (item w) S P w m (reads w) is) refl
marks_read item S P reads closing words marks (more w comma rest m others is tail) =
    rw (closed_before false w comma rest (mark_closes S P closing w m is), mark_read (item w) S P w m (reads w) is, marks_read item S P reads closing rest others tail) refl

-- marks that are all values
all_marked : {A : Type 0} (S : List Word → A → Type 0) (P : List Word → Type 0) (words : List Word) (values : List A) → IsList S words values
    → IsList (IsMarked S P) words (map (λ v. Some v) values)
all_marked S P words values (last w v is) = last w (Some v) is
all_marked S P words values (more w comma rest v others is tail) = more w comma rest (Some v) (map (λ x. Some x) others) is (all_marked S P rest others tail)

outcome_all : {A : Type 0} (values : List A) → outcome (map (λ v. Some v) values) ≡ Ok values
outcome_all [] = refl
outcome_all (v ∷ values) = rw (outcome_all values) refl

outcome_kept : {A : Type 0} (marks : List (Option A)) → ((values : List A) × (outcome marks ≡ Ok values)) ⊎ (outcome marks ≡ Err OverLimit)
outcome_kept [] = inl ([], refl)
outcome_kept (Some v ∷ marks) = elim (outcome_kept marks) [ inl ok ↦ inl (v ∷ ok.0, rw ok.1 refl) | inr over ↦ inr (rw over refl) ]
outcome_kept (None ∷ marks) = elim (outcome_kept marks) [ inl ok ↦ inr (rw ok.1 refl) | inr over ↦ inr (rw over refl) ]

outcome_over : {A : Type 0} (marks : List (Option A)) → HasPast marks → outcome marks ≡ Err OverLimit
outcome_over [] over = absurd over
outcome_over (Some v ∷ marks) over = rw (outcome_over marks over) refl
outcome_over (None ∷ marks) over = elim (outcome_kept marks) [ inl ok ↦ rw ok.1 refl | inr past ↦ rw past refl ]

value_before : {A : Type 0} (v : A) (r : Result (List A) ValueFault) (values : List A) → with_item (Ok v) r ≡ Ok values → (rest : List A) × (r ≡ Ok rest) × (v ∷ rest ≡ values)
value_before v (Ok rest) values e = (rest, refl, cc)
value_before v (Err fault) values e = absurd (cc)

past_before : {A : Type 0} (r : Result (List A) ValueFault) (values : List A) → with_item (Err OverLimit) r ≡ Ok values → ⊥
past_before (Ok rest) values e = cc
past_before (Err fault) values e = cc

over_before : {A : Type 0} (v : A) (r : Result (List A) ValueFault) → with_item (Ok v) r ≡ Err OverLimit → r ≡ Err OverLimit
over_before v (Ok rest) e = absurd (cc)
over_before v (Err fault) e = cc

over_has : {A : Type 0} (marks : List (Option A)) → outcome marks ≡ Err OverLimit → HasPast marks
over_has [] e = absurd (cc)
over_has (Some v ∷ marks) e = over_has marks (over_before v (outcome marks) e)
over_has (None ∷ marks) e = tt

values_of : {A : Type 0} (S : List Word → A → Type 0) (P : List Word → Type 0) (words : List Word) (marks : List (Option A)) (values : List A)
    → IsList (IsMarked S P) words marks → outcome marks ≡ Ok values → IsList S words values
values_of S P words marks values (last w (Some v) is) e = let same : v ∷ [] ≡ values = cc in subst (λ t. IsList S w t) same (last w v is)
values_of S P words marks values (last w None is) e = absurd (cc)
values_of S P words marks values (more w comma rest (Some v) others is tail) e =
    let both = value_before v (outcome others) values e in
    subst (λ t. IsList S (w ++ (word Comma comma ∷ rest)) t) both.2 (more w comma rest v both.0 is (values_of S P rest others both.0 tail both.1))
values_of S P words marks values (more w comma rest None others is tail) e = absurd (past_before (outcome others) values e)

-- a list is read as it is spelled, where its items are, and none has a comma outside parentheses
pub list_reads : {A : Type 0} (item : List Word → Result A ValueFault) (S : List Word → A → Type 0) (P : List Word → Type 0)
    → ((words : List Word) → Reads (item words) (S words) (P words)) → Closes S P → (words : List Word)
    → Reads (list_of item words) (IsList S words) (IsPastList S P words)
list_reads {A} item S P reads closing words =
    by (list_of item words) (judged item S P reads words (pieces false words) (pieces_joined false words)) (λ marks is. marks_read item S P reads closing words marks is) where
      by : (r : Result (List A) ValueFault) → Judged S P words r → ((marks : List (Option A)) → IsList (IsMarked S P) words marks → r ≡ outcome marks)
          → Reads r (IsList S words) (IsPastList S P words)
      by r (inl bad) read = record {
        ok_to = λ v e. absurd (cc);
        past_to = λ e. absurd (cc);
        kept = λ e. cc;
        ok_from = λ v s. read (map (λ x. Some x) v) (all_marked S P words v s) ∙ outcome_all v;
        past_from = λ p. read p.marks p.items ∙ outcome_over p.marks p.over;
      }
      by r (inr found) read = record {
        ok_to = λ v e. values_of S P words found.marks v found.items (sym found.gives ∙ e);
        past_to = λ e. record { marks = found.marks; items = found.items; over = over_has found.marks (sym found.gives ∙ e) };
        kept = λ e. let f = sym found.gives ∙ e in elim (outcome_kept found.marks) [ inl ok ↦ let g = ok.1 in cc | inr over ↦ cc ];
        ok_from = λ v s. read (map (λ x. Some x) v) (all_marked S P words v s) ∙ outcome_all v;
        past_from = λ p. read p.marks p.items ∙ outcome_over p.marks p.over;
      }
