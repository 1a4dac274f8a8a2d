-- Readings: those that a loop makes one by one, and one reading at most.
use Rattle.std.proofs.Common.{◌≡◌, ◌+◌, ◌<◌, ◌≤◌, Bool, List, [], ◌∷◌, ◌++◌, length, Ok, Err, refl, ap, arith, length-append}
use Rattle.style_tokens.specs.declared.token.CssToken.{CssToken}
use Rattle.css_declarations.specs.declared.fault.SheetFault.{SheetFault}
use Rattle.css_declarations.specs.declared.fault.SheetFault.TheVariants.{BadSheet, UnknownProperty, BadValue, BadKeyframes, OverLimit, NoMemory}
use Rattle.css_declarations.specs.DeclarationFaults.{IsTold}
use Rattle.css_selectors.specs.Readings.{Read, Then, Many, Seen, Listed, behind_first, last as second, no_comma}
use Rattle.css_declarations.proofs.PlaceLemmas.{IsRest, rest_rest}
use Rattle.css_selectors.specs.Readings.Then.{broken, later, whole}
use Rattle.css_selectors.specs.Readings.Many.{stopped, breaks, more}
use Rattle.css_selectors.specs.Readings.Seen.{unseen, seen}

-- a fault that is told, seen otherwise
pub told_as : (P Q : SheetFault → Type 0) → ((fault : SheetFault) → P fault → Q fault) → (fault : SheetFault) → IsTold P fault → IsTold Q fault
told_as P Q into NoMemory is = tt
told_as P Q into (BadSheet place) is = into (BadSheet place) is
told_as P Q into (UnknownProperty place) is = into (UnknownProperty place) is
told_as P Q into (BadValue place) is = into (BadValue place) is
told_as P Q into (BadKeyframes place) is = into (BadKeyframes place) is
told_as P Q into (OverLimit place) is = into (OverLimit place) is

pub told_if : (P : SheetFault → Type 0) → (fault : SheetFault) → P fault → IsTold P fault
told_if P NoMemory is = tt
told_if P (BadSheet place) is = is
told_if P (UnknownProperty place) is = is
told_if P (BadValue place) is = is
told_if P (BadKeyframes place) is = is
told_if P (OverLimit place) is = is

-- what is left to be read of many leads to the whole
abbrev pub Leads : {A : Type 0} → (List A → List CssToken → Read (List A) → Type 0) → List A → List CssToken → List A → List CssToken → Type 0
Leads {A} Reads start tokens units rest = (outcome : Read (List A)) → Reads units rest outcome → Reads start tokens outcome

-- what is left is what there was without a front, or without a token or more
pub record IsBehind (tokens rest : List CssToken) : Type 0 where
  pub token : CssToken
  pub front : List CssToken
  pub split : tokens ≡ token ∷ (front ++ rest)

pub behind_is_rest : (tokens rest : List CssToken) → IsBehind tokens rest → IsRest tokens rest
behind_is_rest tokens rest is = record { front = is.token ∷ is.front; split = is.split }

pub behind_is_less : (tokens rest : List CssToken) → IsBehind tokens rest → length rest < length tokens
behind_is_less tokens rest is =
    let split = ap length is.split in let all : length (is.front ++ rest) ≡ length is.front + length rest = length-append is.front rest in omega arith

pub rest_is_less : (tokens rest : List CssToken) → IsRest tokens rest → length rest ≤ length tokens
rest_is_less tokens rest is = let split = ap length is.split in let all : length (is.front ++ rest) ≡ length is.front + length rest = length-append is.front rest in omega arith

abbrev pub IsAtMost : {A : Type 0} → List CssToken → Read A → Type 0
IsAtMost tokens (Ok read) = IsRest tokens read.1
IsAtMost tokens (Err fault) = Unit {0}

abbrev pub Keeps : {A : Type 0} → (List CssToken → Read A → Type 0) → Type 0
Keeps {A} Is = (tokens : List CssToken) (read : Read A) → Is tokens read → IsAtMost tokens read

pub at_most : {A : Type 0} (tokens middle : List CssToken) (read : Read A) → IsRest tokens middle → IsAtMost middle read → IsAtMost tokens read
at_most tokens middle (Ok read) less is = rest_rest tokens middle read.1 less is
at_most tokens middle (Err fault) less is = tt

pub then_keeps : {A B C : Type 0} (into : A → B → C) (First : List CssToken → Read A → Type 0) (Next : A → List CssToken → Read B → Type 0) → Keeps First → ((a : A) → Keeps (Next a))
    → Keeps (Then into First Next)
then_keeps into First Next keeps on tokens read (broken fault is) = tt
then_keeps into First Next keeps on tokens read (later a middle fault is also) = tt
then_keeps into First Next keeps on tokens read (whole a middle b rest is also) =
    rest_rest tokens middle rest (keeps tokens (Ok (a, middle)) is) (on a middle (Ok (b, rest)) also)

pub many_keeps : {A : Type 0} (Is : List A → List CssToken → Read A → Type 0) (stops : List A → List CssToken → Bool) → ((units : List A) → Keeps (Is units)) → (units : List A)
    → Keeps (Many Is stops units)
many_keeps Is stops keeps units tokens read (stopped _ _ off) = record { front = []; split = refl }
many_keeps Is stops keeps units tokens read (breaks _ _ fault on is) = tt
many_keeps Is stops keeps units tokens read (more _ _ one middle _ on is others) =
    at_most tokens middle read (keeps units tokens (Ok (one, middle)) is) (many_keeps Is stops keeps (units ++ (one ∷ [])) middle read others)

pub seen_keeps : {A B : Type 0} (as_seen : A → B) (First : List CssToken → Read A → Type 0) → Keeps First → Keeps (Seen as_seen First)
seen_keeps as_seen First keeps tokens read (unseen fault is) = tt
seen_keeps as_seen First keeps tokens read (seen a rest is) = keeps tokens (Ok (a, rest)) is

behind_less : (tokens : List CssToken) → IsRest tokens (behind_first tokens)
behind_less [] = record { front = []; split = refl }
behind_less (token ∷ tokens) = record { front = token ∷ []; split = refl }

pub listed_keeps : {A : Type 0} (Item : List A → List CssToken → Read A → Type 0) → ((before : List A) → Keeps (Item before)) → Keeps (Listed Item)
listed_keeps {A} Item keeps =
    then_keeps (second {A = A} {B = List A}) (Item []) (λ one. Many (λ before tokens. Item before (behind_first tokens)) no_comma (one ∷ [])) (keeps [])
    (λ one. many_keeps (λ before tokens. Item before (behind_first tokens)) no_comma
    (λ before tokens read is. at_most tokens (behind_first tokens) read (behind_less tokens) (keeps before (behind_first tokens) read is)) (one ∷ []))
