-- Readings that always say something: what tokens begin with, or a fault that is no want of memory.
use Rattle.std.proofs.Common.{◌≡◌, ℕ, zero, suc, ◌<◌, ◌≤◌, Bool, true, false, List, [], ◌∷◌, ◌++◌, length, Ok, Err, refl, sym, ap, subst, arith}
use Rattle.style_tokens.specs.declared.token.CssToken.{CssToken}
use Rattle.css_declarations.specs.declared.fault.SheetFault.{SheetFault}
use Rattle.css_declarations.specs.declared.fault.SheetFault.TheVariants.{BadSheet, UnknownProperty, BadValue, BadKeyframes, OverLimit, NoMemory}
use Rattle.css_declarations.specs.TokenKinds.{begins}
use Rattle.css_declarations.proofs.ToldUnits.{IsSure}
use Rattle.std.specs.Prelude.{not}
use Rattle.css_selectors.specs.Readings.{Read, Exactly, Then, Many, Seen, Listed, behind_first, is_comma, last as second, no_comma}
use Rattle.css_selectors.specs.Readings.Then.{broken, later, whole}
use Rattle.css_selectors.specs.Readings.Many.{stopped, breaks, more}
use Rattle.css_selectors.specs.Readings.Seen.{unseen, seen}
use Rattle.css_selectors.proofs.ReadingLemmas.{Keeps, rest_is_less}

-- it says something of all tokens, and never that memory was refused
pub record Judges {A : Type 0} (Is : List CssToken → Read A → Type 0) : Type 0 where
  pub says : (tokens : List CssToken) → (read : Read A) × Is tokens read
  pub sure : (tokens : List CssToken) (read : Read A) → Is tokens read → IsSure read

pub exactly_judges : {A : Type 0} (found : List CssToken → Read A) → ((tokens : List CssToken) → IsSure (found tokens)) → Judges (Exactly found)
exactly_judges found sure = record {
  says = λ tokens. (found tokens, refl);
  sure = λ tokens read is. subst IsSure (sym is) (sure tokens);
}

-- one after the other
then_says : {A B C : Type 0} (into : A → B → C) (First : List CssToken → Read A → Type 0) (Next : A → List CssToken → Read B → Type 0) (tokens : List CssToken)
    → ((a : A) (middle : List CssToken) → (read : Read B) × Next a middle read) → (read : Read A) → First tokens read → (whole_read : Read C) × Then into First Next tokens whole_read
then_says {A} {B} {C} into First Next tokens says (Err fault) is = (Err fault, broken fault is)
then_says {A} {B} {C} into First Next tokens says (Ok (a, middle)) is = let next = says a middle in by_next next.0 next.1 where
  by_next : (read : Read B) → Next a middle read → (whole_read : Read C) × Then into First Next tokens whole_read
  by_next (Err fault) also = (Err fault, later a middle fault is also)
  by_next (Ok (b, rest)) also = (Ok (into a b, rest), whole a middle b rest is also)

as_sure : (A B : Type 0) (fault : SheetFault) → IsSure {A = A} (Err fault) → IsSure {A = B} (Err fault)
as_sure A B NoMemory sure = sure
as_sure A B (BadSheet place) sure = tt
as_sure A B (UnknownProperty place) sure = tt
as_sure A B (BadValue place) sure = tt
as_sure A B (BadKeyframes place) sure = tt
as_sure A B (OverLimit place) sure = tt

pub then_judges : {A B C : Type 0} (into : A → B → C) (First : List CssToken → Read A → Type 0) (Next : A → List CssToken → Read B → Type 0) → Judges First → ((a : A) → Judges (Next a))
    → Judges (Then into First Next)
then_judges {A} {B} {C} into First Next first next = record {
  says = λ tokens. let start = first.says tokens in then_says into First Next tokens (λ a. (next a).says) start.0 start.1;
  sure = by_case;
} where
  by_case : (tokens : List CssToken) (read : Read C) → Then into First Next tokens read → IsSure read
  by_case tokens read (broken fault is) = as_sure (A × List CssToken) (C × List CssToken) fault (first.sure tokens (Err fault) is)
  by_case tokens read (later a middle fault is also) = as_sure (B × List CssToken) (C × List CssToken) fault ((next a).sure middle (Err fault) also)
  by_case tokens read (whole a middle b rest is also) = tt

-- many: each unit leaves less, where they don't stop
abbrev pub Take : {A : Type 0} → (List A → List CssToken → Read A → Type 0) → (List A → List CssToken → Bool) → Type 0
Take {A} Is stops = (units : List A) (tokens : List CssToken) (unit : A) (rest : List CssToken) → stops units tokens ≡ false → Is units tokens (Ok (unit, rest)) → length rest < length tokens

many_step : {A : Type 0} (Is : List A → List CssToken → Read A → Type 0) (stops : List A → List CssToken → Bool) → Take Is stops → (units : List A) (tokens : List CssToken)
    → (read : Read A) × Is units tokens read
    → ((unit : A) (middle : List CssToken) → length middle < length tokens → (read : Read (List A)) × Many Is stops (units ++ (unit ∷ [])) middle read)
    → (read : Read (List A)) × Many Is stops units tokens read
many_step {A} Is stops takes units tokens says onward = by_stop (stops units tokens) refl where
  by_unit : stops units tokens ≡ false → (read : Read A) → Is units tokens read → (all : Read (List A)) × Many Is stops units tokens all
  by_unit on (Err fault) is = (Err fault, breaks units tokens fault on is)
  by_unit on (Ok (unit, middle)) is = let next = onward unit middle (takes units tokens unit middle on is) in (next.0, more units tokens unit middle next.0 on is next.1)

  by_stop : (b : Bool) → stops units tokens ≡ b → (all : Read (List A)) × Many Is stops units tokens all
  by_stop true off = (Ok (units, tokens), stopped units tokens off)
  by_stop false on = by_unit on says.0 says.1

many_within : {A : Type 0} (most : ℕ) (Is : List A → List CssToken → Read A → Type 0) (stops : List A → List CssToken → Bool) → Take Is stops → ((units : List A) → Judges (Is units))
    → (units : List A) (tokens : List CssToken) → length tokens < most → (read : Read (List A)) × Many Is stops units tokens read
many_within zero Is stops takes judges units tokens less = absurd (omega arith)
many_within (suc most) Is stops takes judges units tokens less =
    many_step Is stops takes units tokens ((judges units).says tokens) (λ unit middle shorter. many_within most Is stops takes judges (units ++ (unit ∷ [])) middle (omega arith))

many_sure : {A : Type 0} (Is : List A → List CssToken → Read A → Type 0) (stops : List A → List CssToken → Bool) → ((units : List A) → Judges (Is units))
    → (units : List A) (tokens : List CssToken) (read : Read (List A)) → Many Is stops units tokens read → IsSure read
many_sure Is stops judges units tokens read (stopped _ _ off) = tt
many_sure {A} Is stops judges units tokens read (breaks _ _ fault on is) = as_sure (A × List CssToken) (List A × List CssToken) fault ((judges units).sure tokens (Err fault) is)
many_sure Is stops judges units tokens read (more _ _ unit middle _ on is reads) = many_sure Is stops judges (units ++ (unit ∷ [])) middle read reads

pub many_judges : {A : Type 0} (Is : List A → List CssToken → Read A → Type 0) (stops : List A → List CssToken → Bool) → Take Is stops → ((units : List A) → Judges (Is units)) → (units : List A)
    → Judges (Many Is stops units)
many_judges Is stops takes judges units = record {
  says = λ tokens. many_within (suc (length tokens)) Is stops takes judges units tokens (omega arith);
  sure = λ tokens read is. many_sure Is stops judges units tokens read is;
}

-- where many end, they stop
pub many_end : {A : Type 0} (Is : List A → List CssToken → Read A → Type 0) (stops : List A → List CssToken → Bool) (units : List A) (tokens : List CssToken) (read : Read (List A))
    → Many Is stops units tokens read → (all : List A) (rest : List CssToken) → read ≡ Ok (all, rest) → stops all rest ≡ true
many_end {A} Is stops units tokens read (stopped _ _ off) all rest e =
    let both : ◌≡◌ {A = List A × List CssToken} (units, tokens) (all, rest) = cc in
    let same : units ≡ all = ap (λ (p : List A × List CssToken). p.0) both in
    let left : tokens ≡ rest = ap (λ (p : List A × List CssToken). p.1) both in
    subst (λ t. stops all t ≡ true) left (subst (λ u. stops u tokens ≡ true) same off)
many_end Is stops units tokens read (breaks _ _ fault on is) all rest e = absurd (cc)
many_end Is stops units tokens read (more _ _ unit middle _ on is reads) all rest e = many_end Is stops (units ++ (unit ∷ [])) middle read reads all rest e

-- the same, seen as another thing
seen_says : {A B : Type 0} (as_seen : A → B) (First : List CssToken → Read A → Type 0) (tokens : List CssToken) (read : Read A) → First tokens read → (shown : Read B) × Seen as_seen First tokens shown
seen_says as_seen First tokens (Err fault) is = (Err fault, unseen fault is)
seen_says as_seen First tokens (Ok (a, rest)) is = (Ok (as_seen a, rest), seen a rest is)

seen_sure : {A B : Type 0} (as_seen : A → B) (First : List CssToken → Read A → Type 0) → Judges First → (tokens : List CssToken) (read : Read B) → Seen as_seen First tokens read → IsSure read
seen_sure {A} {B} as_seen First judges tokens read (unseen fault is) = as_sure (A × List CssToken) (B × List CssToken) fault (judges.sure tokens (Err fault) is)
seen_sure as_seen First judges tokens read (seen a rest is) = tt

pub seen_judges : {A B : Type 0} (as_seen : A → B) (First : List CssToken → Read A → Type 0) → Judges First → Judges (Seen as_seen First)
seen_judges as_seen First judges = record {
  says = λ tokens. let first = judges.says tokens in seen_says as_seen First tokens first.0 first.1;
  sure = λ tokens read is. seen_sure as_seen First judges tokens read is;
}

-- one thing or more, with commas between
comma_first : (tokens : List CssToken) → not (begins is_comma tokens) ≡ false → (rest : List CssToken) → length rest ≤ length (behind_first tokens) → length rest < length tokens
comma_first [] begun rest less = absurd (cc)
comma_first (token ∷ tokens) begun rest less = let l : length rest ≤ length tokens = less in omega arith

pub listed_judges : {A : Type 0} (Item : List A → List CssToken → Read A → Type 0) → ((before : List A) → Judges (Item before)) → ((before : List A) → Keeps (Item before)) → Judges (Listed Item)
listed_judges {A} Item judges keeps =
    then_judges (second {A = A} {B = List A}) (Item []) (λ one. Many (λ before tokens. Item before (behind_first tokens)) no_comma (one ∷ [])) (judges [])
    (λ one. many_judges (λ before tokens. Item before (behind_first tokens)) no_comma
    (λ before tokens item rest comma is. comma_first tokens comma rest (rest_is_less (behind_first tokens) rest (keeps before (behind_first tokens) (Ok (item, rest)) is)))
    (λ before. record { says = λ tokens. (judges before).says (behind_first tokens); sure = λ tokens. (judges before).sure (behind_first tokens) }) (one ∷ []))
