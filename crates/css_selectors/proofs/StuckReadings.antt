-- Readings with one look ahead: what they give is told by the tokens up to there and the next one, and a `BadSheet` by the tokens
-- up to its place.
use Rattle.std.proofs.Common.{◌≡◌, ℕ, Bool, false, List, [], ◌∷◌, ◌++◌, Ok, Err, refl, sym, ap, ◌∙◌}
use Rattle.std.specs.Prelude.{not}
use Rattle.style_tokens.specs.declared.token.CssToken.{CssToken}
use Rattle.css_declarations.specs.declared.fault.SheetFault.{SheetFault}
use Rattle.css_declarations.specs.TokenKinds.{begins}
use Rattle.css_declarations.proofs.StuckTokens.{AreAlike, IsStable, Sticks, stable_as, stable_then, sticks_as, stuck_as, stuck_then}
use Rattle.css_selectors.specs.Readings.{Read, Then, Many, Seen, Listed, behind_first, is_comma, last as second, no_comma}
use Rattle.css_selectors.specs.Readings.Then.{broken, later, whole}
use Rattle.css_selectors.specs.Readings.Many.{stopped, breaks, more}
use Rattle.css_selectors.specs.Readings.Seen.{unseen, seen}

-- what a reading gives
abbrev pub StableRead : {A : Type 0} → (List CssToken → Read A → Type 0) → List CssToken → Read A → Type 0
StableRead Is tokens (Ok read) = IsStable (λ x r. Is x (Ok (read.0, r))) tokens read.1
StableRead Is tokens (Err fault) = Unit {0}

-- and its faults
abbrev pub StuckRead : {A : Type 0} → ℕ → (List CssToken → Read A → Type 0) → List CssToken → Read A → Type 0
StuckRead end Is tokens (Ok read) = Unit {0}
StuckRead end Is tokens (Err fault) = Sticks end (λ f x. Is x (Err f)) tokens fault

pub record LooksAhead {A : Type 0} (end : ℕ) (Is : List CssToken → Read A → Type 0) : Type 0 where
  pub stable : (tokens : List CssToken) (read : Read A) → Is tokens read → StableRead Is tokens read
  pub stuck : (tokens : List CssToken) (read : Read A) → Is tokens read → StuckRead end Is tokens read

-- one after another
then_stable : {A B C : Type 0} (end : ℕ) (into : A → B → C) (First : List CssToken → Read A → Type 0) (Next : A → List CssToken → Read B → Type 0) → LooksAhead end First → ((a : A) → LooksAhead end (Next a))
    → (tokens : List CssToken) (read : Read C) → Then into First Next tokens read → StableRead (Then into First Next) tokens read
then_stable end into First Next first next tokens read (broken fault is) = tt
then_stable end into First Next first next tokens read (later a middle fault is also) = tt
then_stable end into First Next first next tokens read (whole a middle b rest is also) =
    stable_then (λ x m. First x (Ok (a, m))) (λ m r. Next a m (Ok (b, r))) (λ x r. Then into First Next x (Ok (into a b, r))) (λ x m r one two. whole a m b r one two) tokens middle rest
    (first.stable tokens (Ok (a, middle)) is) ((next a).stable middle (Ok (b, rest)) also)

then_stuck : {A B C : Type 0} (end : ℕ) (into : A → B → C) (First : List CssToken → Read A → Type 0) (Next : A → List CssToken → Read B → Type 0) → LooksAhead end First → ((a : A) → LooksAhead end (Next a))
    → (tokens : List CssToken) (read : Read C) → Then into First Next tokens read → StuckRead end (Then into First Next) tokens read
then_stuck end into First Next first next tokens read (broken fault is) =
    sticks_as end (λ f x. First x (Err f)) (λ f x. Then into First Next x (Err f)) tokens tokens fault
    (λ f place. stuck_as (λ x. First x (Err f)) (λ x. Then into First Next x (Err f)) tokens place (λ x begin one. broken f one))
    (first.stuck tokens (Err fault) is)
then_stuck end into First Next first next tokens read (later a middle fault is also) =
    sticks_as end (λ f x. Next a x (Err f)) (λ f x. Then into First Next x (Err f)) middle tokens fault
    (λ f place. stuck_then (λ x m. First x (Ok (a, m))) (λ m. Next a m (Err f)) (λ x. Then into First Next x (Err f)) (λ x m one two. later a m f one two) tokens middle place
    (first.stable tokens (Ok (a, middle)) is))
    ((next a).stuck middle (Err fault) also)
then_stuck end into First Next first next tokens read (whole a middle b rest is also) = tt

pub then_looks : {A B C : Type 0} (end : ℕ) (into : A → B → C) (First : List CssToken → Read A → Type 0) (Next : A → List CssToken → Read B → Type 0) → LooksAhead end First → ((a : A) → LooksAhead end (Next a))
    → LooksAhead end (Then into First Next)
then_looks end into First Next first next = record { stable = then_stable end into First Next first next; stuck = then_stuck end into First Next first next }

-- many, of which the next token tells where they stop
abbrev pub StopsAhead : {A : Type 0} → (List A → List CssToken → Bool) → Type 0
StopsAhead {A} stops = (units : List A) (tokens others : List CssToken) → AreAlike tokens others → stops units others ≡ stops units tokens

-- a unit looks ahead where they don't stop
pub record UnitsLook {A : Type 0} (end : ℕ) (Is : List A → List CssToken → Read A → Type 0) (stops : List A → List CssToken → Bool) : Type 0 where
  pub ahead : StopsAhead stops
  pub stable : (units : List A) (tokens : List CssToken) (read : Read A) → stops units tokens ≡ false → Is units tokens read → StableRead (Is units) tokens read
  pub stuck : (units : List A) (tokens : List CssToken) (read : Read A) → stops units tokens ≡ false → Is units tokens read → StuckRead end (Is units) tokens read

-- a unit where they go on
abbrev GoesOn : {A : Type 0} → (List A → List CssToken → Read A → Type 0) → (List A → List CssToken → Bool) → List A → A → List CssToken → List CssToken → Type 0
GoesOn Is stops units unit tokens rest = (stops units tokens ≡ false) × Is units tokens (Ok (unit, rest))

unit_stable : {A : Type 0} (end : ℕ) (Is : List A → List CssToken → Read A → Type 0) (stops : List A → List CssToken → Bool) → UnitsLook end Is stops → (units : List A) (tokens : List CssToken) (unit : A)
    (rest : List CssToken) → stops units tokens ≡ false → Is units tokens (Ok (unit, rest)) → IsStable (GoesOn Is stops units unit) tokens rest
unit_stable end Is stops looks units tokens unit rest on is =
    stable_as (λ x r. Is units x (Ok (unit, r))) (GoesOn Is stops units unit) tokens rest (λ x r begin follow one. (looks.ahead units tokens x begin ∙ on, one)) (looks.stable units tokens (Ok (unit, rest)) on is)

more_stable : {A : Type 0} (end : ℕ) (Is : List A → List CssToken → Read A → Type 0) (stops : List A → List CssToken → Bool) → UnitsLook end Is stops → (units : List A) (tokens : List CssToken) (unit : A)
    (middle : List CssToken) → stops units tokens ≡ false → Is units tokens (Ok (unit, middle)) → (read : Read (List A)) → StableRead (Many Is stops (units ++ (unit ∷ []))) middle read
    → StableRead (Many Is stops units) tokens read
more_stable end Is stops looks units tokens unit middle on is (Err fault) onward = tt
more_stable end Is stops looks units tokens unit middle on is (Ok read) onward =
    stable_then (GoesOn Is stops units unit) (λ m r. Many Is stops (units ++ (unit ∷ [])) m (Ok (read.0, r))) (λ x r. Many Is stops units x (Ok (read.0, r)))
    (λ x m r one two. more units x unit m (Ok (read.0, r)) one.0 one.1 two) tokens middle read.1 (unit_stable end Is stops looks units tokens unit middle on is) onward

more_stuck : {A : Type 0} (end : ℕ) (Is : List A → List CssToken → Read A → Type 0) (stops : List A → List CssToken → Bool) → UnitsLook end Is stops → (units : List A) (tokens : List CssToken) (unit : A)
    (middle : List CssToken) → stops units tokens ≡ false → Is units tokens (Ok (unit, middle)) → (read : Read (List A)) → StuckRead end (Many Is stops (units ++ (unit ∷ []))) middle read
    → StuckRead end (Many Is stops units) tokens read
more_stuck end Is stops looks units tokens unit middle on is (Ok read) onward = tt
more_stuck end Is stops looks units tokens unit middle on is (Err fault) onward =
    sticks_as end (λ f x. Many Is stops (units ++ (unit ∷ [])) x (Err f)) (λ f x. Many Is stops units x (Err f)) middle tokens fault
    (λ f place. stuck_then (GoesOn Is stops units unit) (λ m. Many Is stops (units ++ (unit ∷ [])) m (Err f)) (λ x. Many Is stops units x (Err f))
    (λ x m one two. more units x unit m (Err f) one.0 one.1 two) tokens middle place (unit_stable end Is stops looks units tokens unit middle on is))
    onward

many_stable : {A : Type 0} (end : ℕ) (Is : List A → List CssToken → Read A → Type 0) (stops : List A → List CssToken → Bool) → UnitsLook end Is stops → (units : List A) (tokens : List CssToken)
    (read : Read (List A)) → Many Is stops units tokens read → StableRead (Many Is stops units) tokens read
many_stable end Is stops looks units tokens read (stopped _ _ off) =
    record { front = []; split = refl; again = λ others begin. stopped units others (looks.ahead units tokens others begin ∙ off) }
many_stable end Is stops looks units tokens read (breaks _ _ fault on is) = tt
many_stable end Is stops looks units tokens read (more _ _ unit middle _ on is reads) =
    more_stable end Is stops looks units tokens unit middle on is read (many_stable end Is stops looks (units ++ (unit ∷ [])) middle read reads)

many_stuck : {A : Type 0} (end : ℕ) (Is : List A → List CssToken → Read A → Type 0) (stops : List A → List CssToken → Bool) → UnitsLook end Is stops → (units : List A) (tokens : List CssToken)
    (read : Read (List A)) → Many Is stops units tokens read → StuckRead end (Many Is stops units) tokens read
many_stuck end Is stops looks units tokens read (stopped _ _ off) = tt
many_stuck end Is stops looks units tokens read (breaks _ _ fault on is) =
    sticks_as end (λ f x. Is units x (Err f)) (λ f x. Many Is stops units x (Err f)) tokens tokens fault
    (λ f place. stuck_as (λ x. Is units x (Err f)) (λ x. Many Is stops units x (Err f)) tokens place (λ x begin one. breaks units x f (looks.ahead units tokens x begin ∙ on) one))
    (looks.stuck units tokens (Err fault) on is)
many_stuck end Is stops looks units tokens read (more _ _ unit middle _ on is reads) =
    more_stuck end Is stops looks units tokens unit middle on is read (many_stuck end Is stops looks (units ++ (unit ∷ [])) middle read reads)

pub many_look : {A : Type 0} (end : ℕ) (Is : List A → List CssToken → Read A → Type 0) (stops : List A → List CssToken → Bool) → UnitsLook end Is stops → (units : List A) → LooksAhead end (Many Is stops units)
many_look end Is stops looks units = record { stable = many_stable end Is stops looks units; stuck = many_stuck end Is stops looks units }

pub units_look : {A : Type 0} (end : ℕ) (Is : List A → List CssToken → Read A → Type 0) (stops : List A → List CssToken → Bool) → StopsAhead stops → ((units : List A) → LooksAhead end (Is units))
    → UnitsLook end Is stops
units_look end Is stops ahead look = record {
  ahead = ahead;
  stable = λ units tokens read on is. (look units).stable tokens read is;
  stuck = λ units tokens read on is. (look units).stuck tokens read is;
}

-- the same, seen as another thing
seen_stable : {A B : Type 0} (end : ℕ) (as_seen : A → B) (First : List CssToken → Read A → Type 0) → LooksAhead end First → (tokens : List CssToken) (read : Read B) → Seen as_seen First tokens read
    → StableRead (Seen as_seen First) tokens read
seen_stable end as_seen First look tokens read (unseen fault is) = tt
seen_stable end as_seen First look tokens read (seen a rest is) =
    stable_as (λ x r. First x (Ok (a, r))) (λ x r. Seen as_seen First x (Ok (as_seen a, r))) tokens rest (λ x r begin follow one. seen a r one) (look.stable tokens (Ok (a, rest)) is)

seen_stuck : {A B : Type 0} (end : ℕ) (as_seen : A → B) (First : List CssToken → Read A → Type 0) → LooksAhead end First → (tokens : List CssToken) (read : Read B) → Seen as_seen First tokens read
    → StuckRead end (Seen as_seen First) tokens read
seen_stuck end as_seen First look tokens read (seen a rest is) = tt
seen_stuck end as_seen First look tokens read (unseen fault is) =
    sticks_as end (λ f x. First x (Err f)) (λ f x. Seen as_seen First x (Err f)) tokens tokens fault
    (λ f place. stuck_as (λ x. First x (Err f)) (λ x. Seen as_seen First x (Err f)) tokens place (λ x begin one. unseen f one)) (look.stuck tokens (Err fault) is)

pub seen_looks : {A B : Type 0} (end : ℕ) (as_seen : A → B) (First : List CssToken → Read A → Type 0) → LooksAhead end First → LooksAhead end (Seen as_seen First)
seen_looks end as_seen First look = record { stable = seen_stable end as_seen First look; stuck = seen_stuck end as_seen First look }

-- one thing or more, with commas between
comma_stable : {A : Type 0} (Item : List CssToken → Read A → Type 0) (tokens : List CssToken) (read : Read A) → not (begins is_comma tokens) ≡ false → StableRead Item (behind_first tokens) read
    → StableRead (λ x. Item (behind_first x)) tokens read
comma_stable Item tokens (Err fault) on is = tt
comma_stable Item [] (Ok read) on is = absurd (cc)
comma_stable Item (token ∷ tokens) (Ok read) on is = record { front = token ∷ is.front; split = ap (λ r. token ∷ r) is.split; again = λ others begin. is.again others begin }

-- behind a token
pub prefix_stuck : (end : ℕ) (P Q : SheetFault → List CssToken → Type 0) (token : CssToken) (rest : List CssToken) (fault : SheetFault) → ((f : SheetFault) (x : List CssToken) → P f x → Q f (token ∷ x))
    → Sticks end P rest fault → Sticks end Q (token ∷ rest) fault
prefix_stuck end P Q token rest fault into is =
    sticks_as end P Q rest (token ∷ rest) fault
    (λ f place stuck. record {
      front = token ∷ stuck.front;
      token = stuck.token;
      rest = stuck.rest;
      split = ap (λ r. token ∷ r) stuck.split;
      place_is = stuck.place_is;
      again = λ more. into f (stuck.front ++ stuck.token ∷ more) (stuck.again more);
    }) is

comma_stuck : {A : Type 0} (end : ℕ) (Item : List CssToken → Read A → Type 0) (tokens : List CssToken) (read : Read A) → not (begins is_comma tokens) ≡ false → StuckRead end Item (behind_first tokens) read
    → StuckRead end (λ x. Item (behind_first x)) tokens read
comma_stuck end Item tokens (Ok read) on is = tt
comma_stuck end Item [] (Err fault) on is = absurd (cc)
comma_stuck end Item (token ∷ tokens) (Err fault) on is = prefix_stuck end (λ f x. Item x (Err f)) (λ f x. Item (behind_first x) (Err f)) token tokens fault (λ f x one. one) is

comma_ahead : {A : Type 0} → StopsAhead {A = A} no_comma
comma_ahead units tokens others begin = ap (λ t. not (begins is_comma t)) begin.second ∙ sym (ap (λ t. not (begins is_comma t)) begin.first)

pub listed_looks : {A : Type 0} (end : ℕ) (Item : List A → List CssToken → Read A → Type 0) → ((before : List A) → LooksAhead end (Item before)) → LooksAhead end (Listed Item)
listed_looks {A} end Item look =
    then_looks end (second {A = A} {B = List A}) (Item []) (λ one. Many (λ before tokens. Item before (behind_first tokens)) no_comma (one ∷ [])) (look [])
    (λ one. many_look end (λ before tokens. Item before (behind_first tokens)) no_comma (record {
      ahead = comma_ahead {A = A};
      stable = λ before tokens read on is. comma_stable (Item before) tokens read on ((look before).stable (behind_first tokens) read is);
      stuck = λ before tokens read on is. comma_stuck end (Item before) tokens read on ((look before).stuck (behind_first tokens) read is);
    }) (one ∷ []))
