-- Runs of bytes, white space, names and words: what is read is spelled so, and what is spelled so is read.
use Rattle.std.proofs.Common.{◌≡◌, ℕ, zero, suc, ◌+◌, ◌<◌, ◌≤◌, Bool, true, false, cond, List, [], ◌∷◌, ◌++◌, length, drop, get_or, map, Option, Some, None, refl, sym, ap, ◌∙◌, subst, inl, inr, arith, length-append, drop-cons, eq-eqb, eqb}
use Rattle.std.specs.Prelude.{IsTrue, option_and_then, ◌&&◌, ◌||◌, not, ◌==◌}
use Rattle.std.specs.Char.{to_ascii_lowercase}
use Rattle.std.specs.List.{list_all}
use Rattle.std.proofs.lemmas.Bool.{cases_Bool, and_parts, and_from, eqb-true}
use Rattle.std.proofs.lemmas.Bool.Decides.{nat_tests}
use Rattle.text_tokens.specs.Classes.{is_white, is_letter}
use Rattle.page_tokens.specs.HtmlRuns.{IsRun, MaybeWhite, IsWhite, IsNamed, IsAnyCase, begins_with_letter}
use Rattle.page_tokens.specs.HtmlReading.{run_of, after_run, byte_at, white_at, name_at, any_case_at, spaced_byte_at}

-- the step of a chain that gave something
pub bound : {A B : Type 0} (f : A → Option B) (o : Option A) (y : B) → option_and_then f o ≡ Some y → (x : A) × (o ≡ Some x) × (f x ≡ Some y)
bound f None y e = absurd (cc)
bound f (Some x) y e = (x, refl, e)

-- a test that gave something
pub tested : {A : Type 0} (b : Bool) (o : Option A) (y : A) → cond b o None ≡ Some y → (b ≡ true) × (o ≡ Some y)
tested true o y e = (refl, e)
tested false o y e = absurd (cc)

pub unsome : {A : Type 0} (a b : A) → Some a ≡ Some b → a ≡ b
unsome a b e = cc

-- equal pairs have equal parts
pub some_pair : {A B : Type 0} (a c : A) (b d : B) → ◌≡◌ {A = Option (A × B)} (Some (a, b)) (Some (c, d)) → (a ≡ c) × (b ≡ d)
some_pair {A} {B} a c b d e =
    let p : A × B = (a, b) in
    let q : A × B = (c, d) in
    let both : p ≡ q = unsome p q e in
    (ap (λ (x : A × B). x.0) both, ap (λ (x : A × B). x.1) both)

-- the list is empty, or its first byte isn't of the class
abbrev pub Stops : (ℕ → Bool) → List ℕ → Type 0
Stops class [] = Unit {0}
Stops class (b ∷ bs) = class b ≡ false

-- what is read as a run is one
pub run_is : (class : ℕ → Bool) (bytes : List ℕ) → IsRun class bytes (run_of class bytes) (after_run class bytes)
run_is class [] = record { spelled = refl; of_class = refl }
run_is class (b ∷ bs) =
    let more = run_is class bs in
    elim (cases_Bool (class b)) [
      | inl e ↦ rw e (record { spelled = ap (λ xs. b ∷ xs) more.spelled; of_class = and_from (class b) (list_all class (run_of class bs)) e more.of_class })
      | inr e ↦ rw e (record { spelled = refl; of_class = refl })
    ]

-- a run that ends is read
pub run_read : (class : ℕ → Bool) (run rest : List ℕ) → list_all class run ≡ true → Stops class rest → (run_of class (run ++ rest) ≡ run) × (after_run class (run ++ rest) ≡ rest)
run_read class [] [] all stops = (refl, refl)
run_read class [] (b ∷ bs) all stops = rw stops (refl, refl)
run_read class (r ∷ rs) rest all stops =
    let parts = and_parts (class r) (list_all class rs) all in
    let first : class r ≡ true = parts.0 in
    let more = run_read class rs rest parts.1 stops in
    rw first (ap (λ xs. r ∷ xs) more.0, more.1)

pub run_again : (class : ℕ → Bool) (bytes run rest : List ℕ) → IsRun class bytes run rest → Stops class rest → (run_of class bytes ≡ run) × (after_run class bytes ≡ rest)
run_again class bytes run rest is stops =
    let read = run_read class run rest is.of_class stops in
    (ap (run_of class) is.spelled ∙ read.0, ap (after_run class) is.spelled ∙ read.1)

-- a byte
pub byte_takes : (byte : ℕ) (bytes rest : List ℕ) → byte_at byte bytes ≡ Some rest → bytes ≡ byte ∷ rest
unfolding byte_at
byte_takes byte [] rest e = absurd (cc)
byte_takes byte (b ∷ bs) rest e =
    let parts = tested (b == byte) (Some bs) rest e in
    let same : b ≡ byte = eqb-true b byte parts.0 in
    cc

pub byte_again : (byte : ℕ) (rest : List ℕ) → byte_at byte (byte ∷ rest) ≡ Some rest
unfolding byte_at
byte_again byte rest = let same : (byte == byte) ≡ true = eq-eqb byte byte refl in rw same refl

-- white space of any length
pub white_is : (bytes : List ℕ) → MaybeWhite bytes (after_run is_white bytes)
white_is bytes = record { white = run_of is_white bytes; run = run_is is_white bytes }

pub white_gone : (bytes rest : List ℕ) → MaybeWhite bytes rest → Stops is_white rest → after_run is_white bytes ≡ rest
white_gone bytes rest is stops = (run_again is_white bytes is.white rest is.run stops).1

-- white space of one byte or more
pub white_takes : (bytes rest : List ℕ) → white_at bytes ≡ Some rest → IsWhite bytes rest
unfolding white_at
white_takes [] rest e = absurd (cc)
white_takes (b ∷ bs) rest e =
    let parts = tested (is_white b) (Some (after_run is_white bs)) rest e in
    let same : after_run is_white bs ≡ rest = cc in
    record { first = b; more = bs; is_first = refl; first_white = parts.0; more_white = subst (MaybeWhite bs) same (white_is bs) }

pub white_again : (bytes rest : List ℕ) → IsWhite bytes rest → Stops is_white rest → white_at bytes ≡ Some rest
unfolding white_at
white_again bytes rest is stops =
    let first : is_white is.first ≡ true = is.first_white in
    let gone = white_gone is.more rest is.more_white stops in
    rw is.is_first (rw first (ap Some gone))

-- a name
pub name_takes : (class : ℕ → Bool) (bytes name rest : List ℕ) → name_at class bytes ≡ Some (name, rest) → IsNamed class bytes name rest
unfolding name_at
name_takes class bytes name rest e =
    let parts = tested (begins_with_letter (run_of class bytes)) (Some (run_of class bytes, after_run class bytes)) (name, rest) e in
    let both = some_pair (run_of class bytes) name (after_run class bytes) rest parts.1 in
    let names = both.0 in
    let rests = both.1 in
    let run = run_is class bytes in
    record { run = subst (λ r. IsRun class bytes name r) rests (subst (λ n. IsRun class bytes n (after_run class bytes)) names run); begins = subst (λ n. IsTrue (begins_with_letter n)) names parts.0 }

pub name_again : (class : ℕ → Bool) (bytes name rest : List ℕ) → IsNamed class bytes name rest → Stops class rest → name_at class bytes ≡ Some (name, rest)
unfolding name_at
name_again class bytes name rest is stops =
    let read = run_again class bytes name rest is.run stops in
    let begins : begins_with_letter name ≡ true = is.begins in
    rw (read.0, read.1, begins) refl

-- no white space stands at a name
letter_is_not_white : (b : ℕ) → is_letter b ≡ true → is_white b ≡ false
letter_is_not_white b letter = grind (arith, nat_tests)

pub name_stops_white : (class : ℕ → Bool) (bytes name rest : List ℕ) → IsNamed class bytes name rest → Stops is_white bytes
name_stops_white class bytes [] rest is = absurd (let no : false ≡ true = is.begins in cc)
name_stops_white class bytes (n ∷ ns) rest is = subst (Stops is_white) (sym is.run.spelled) (letter_is_not_white n is.begins)

-- white space and a byte
pub spaced_takes : (byte : ℕ) (bytes rest : List ℕ) → spaced_byte_at byte bytes ≡ Some rest → MaybeWhite bytes (byte ∷ rest)
unfolding spaced_byte_at
spaced_takes byte bytes rest e = subst (MaybeWhite bytes) (byte_takes byte (after_run is_white bytes) rest e) (white_is bytes)

pub spaced_again : (byte : ℕ) (bytes rest : List ℕ) → is_white byte ≡ false → MaybeWhite bytes (byte ∷ rest) → spaced_byte_at byte bytes ≡ Some rest
unfolding spaced_byte_at
spaced_again byte bytes rest black is = ap (byte_at byte) (white_gone bytes (byte ∷ rest) is black) ∙ byte_again byte rest

-- a word in any case
pub any_case_takes : (word bytes rest : List ℕ) → any_case_at word bytes ≡ Some rest → IsAnyCase word bytes rest
unfolding any_case_at
any_case_takes [] bytes rest e = record { letters = []; spelled = cc; is_word = refl }
any_case_takes (w ∷ ws) [] rest e = absurd (cc)
any_case_takes (w ∷ ws) (b ∷ bs) rest e =
    let parts = tested (to_ascii_lowercase b == w) (any_case_at ws bs) rest e in
    let more = any_case_takes ws bs rest parts.1 in
    record {
      letters = b ∷ more.letters;
      spelled = ap (λ xs. b ∷ xs) more.spelled;
      is_word = let same : to_ascii_lowercase b ≡ w = eqb-true (to_ascii_lowercase b) w parts.0 in ap (λ x. x ∷ map to_ascii_lowercase more.letters) same ∙ ap (λ xs. w ∷ xs) more.is_word;
    }

any_case_read : (letters rest : List ℕ) → any_case_at (map to_ascii_lowercase letters) (letters ++ rest) ≡ Some rest
unfolding any_case_at
any_case_read [] rest = refl
any_case_read (x ∷ xs) rest = let same : (to_ascii_lowercase x == to_ascii_lowercase x) ≡ true = eq-eqb (to_ascii_lowercase x) (to_ascii_lowercase x) refl in rw same (any_case_read xs rest)

pub any_case_again : (word bytes rest : List ℕ) → IsAnyCase word bytes rest → any_case_at word bytes ≡ Some rest
any_case_again word bytes rest is = ap (λ w. any_case_at w bytes) (sym is.is_word) ∙ ap (any_case_at (map to_ascii_lowercase is.letters)) is.spelled ∙ any_case_read is.letters rest

-- of nothing no further letter is read
pub any_case_nothing : (word rest : List ℕ) (i : ℕ) → i < length word → length rest ≡ 0 → any_case_at (drop i word) rest ≡ None
unfolding any_case_at
any_case_nothing word [] i inside empty = rw (drop-cons word i 0) refl
any_case_nothing word (b ∷ bs) i inside empty = absurd (omega arith)

-- what is left is no longer
pub run_shorter : (class : ℕ → Bool) (bytes run rest : List ℕ) → IsRun class bytes run rest → length rest ≤ length bytes
run_shorter class bytes run rest is = omega (arith, ap length is.spelled, length-append run rest)

pub maybe_white_shorter : (bytes rest : List ℕ) → MaybeWhite bytes rest → length rest ≤ length bytes
maybe_white_shorter bytes rest is = run_shorter is_white bytes is.white rest is.run

pub white_shorter : (bytes rest : List ℕ) → IsWhite bytes rest → length rest < length bytes
white_shorter bytes rest is = omega (arith, ap length is.is_first, maybe_white_shorter is.more rest is.more_white)

-- where white space or another byte that isn't of the class stands, the class stops
pub white_stops : (class : ℕ → Bool) → ((b : ℕ) → is_white b ≡ true → class b ≡ false) → (bytes rest : List ℕ) → MaybeWhite bytes rest → Stops class rest → Stops class bytes
white_stops class apart bytes rest is stops = subst (Stops class) (sym is.run.spelled) (first_stops is.white is.run.of_class) where
  first_stops : (white : List ℕ) → list_all is_white white ≡ true → Stops class (white ++ rest)
  first_stops [] all = stops
  first_stops (w ∷ ws) all = apart w (and_parts (is_white w) (list_all is_white ws) all).0
