-- Of some tokens there is one reading at most.
use Rattle.std.proofs.Common.{◌≡◌, ℕ, Bool, true, false, List, [], ◌∷◌, ◌++◌, Ok, Err, refl, sym, ap, ◌∙◌, subst}
use Rattle.page_model.specs.declared.rule.Decl.{Decl}
use Rattle.style_tokens.specs.declared.token.CssToken.{CssToken}
use Rattle.css_declarations.specs.declared.context.Context.{Context}
use Rattle.css_declarations.specs.declared.context.Context.TheVariants.{Block, Rule}
use Rattle.css_declarations.specs.declared.fault.SheetFault.{SheetFault}
use Rattle.css_declarations.specs.TokenKinds.{begins, is_left_brace, is_right_brace}
use Rattle.css_declarations.proofs.UnitReads.{one_list, one_fault, good_is_not_faulty}
use Rattle.css_parts.specs.KeyframeGrammar.{Blocks, Offsets, OneBlock, are_closed, block_of, given_in, head_at, is_at_word, offset_at}
use Rattle.css_selectors.specs.Readings.{Read, Exactly, Then, Many, Seen, Listed, Braced, Declares, behind_first, last as second, no_comma, token_at}
use Rattle.css_selectors.specs.Readings.Then.{broken, later, whole}
use Rattle.css_selectors.specs.Readings.Many.{stopped, breaks, more}
use Rattle.css_selectors.specs.Readings.Seen.{unseen, seen}
use Rattle.css_selectors.specs.SelectorGrammar.{Parts, Selector, Selectors, compound_of, ends_compound, part_at}
use Rattle.css_reader.specs.SheetGrammar.{AreKeyframes, IsItem, IsRule, Items, is_end_behind, item_by, keyframes_of, rule_of}

abbrev pub IsOne : {A : Type 0} → (List CssToken → Read A → Type 0) → Type 0
IsOne {A} Is = (tokens : List CssToken) (read other : Read A) → Is tokens read → Is tokens other → other ≡ read

pub exactly_one : {A : Type 0} (found : List CssToken → Read A) → IsOne (Exactly found)
exactly_one found tokens read other is also = also ∙ sym is

-- what comes next, behind a reading
abbrev Goes : {A B : Type 0} → (A → List CssToken → Read B → Type 0) → Read B → Read A → Type 0
Goes Next outcome (Ok read) = Next read.0 read.1 outcome
Goes Next outcome (Err fault) = Unit {0}

joined_read : {A B C : Type 0} → (A → B → C) → Read A → Read B → Read C
joined_read into (Ok read) (Ok next) = Ok (into read.0 next.0, next.1)
joined_read into (Ok read) (Err fault) = Err fault
joined_read into (Err fault) next = Err fault

pub then_one : {A B C : Type 0} (into : A → B → C) (First : List CssToken → Read A → Type 0) (Next : A → List CssToken → Read B → Type 0) → IsOne First → ((a : A) → IsOne (Next a)) → IsOne (Then into First Next)
unfolding joined_read
then_one into First Next one next tokens read other (broken fault is) (broken second also) =
    let e = one tokens (Err fault) (Err second) is also in cc
then_one into First Next one next tokens read other (broken fault is) (later a middle second also thence) =
    let e = one tokens (Err fault) (Ok (a, middle)) is also in absurd (cc)
then_one into First Next one next tokens read other (broken fault is) (whole a middle b rest also thence) =
    let e = one tokens (Err fault) (Ok (a, middle)) is also in absurd (cc)
then_one into First Next one next tokens read other (later a middle fault is thence) (broken second also) =
    let e = one tokens (Ok (a, middle)) (Err second) is also in absurd (cc)
then_one into First Next one next tokens read other (later a middle fault is thence) (later x between second also thus) =
    let e = one tokens (Ok (a, middle)) (Ok (x, between)) is also in
    let f = next a middle (Err fault) (Err second) thence (subst (Goes Next (Err second)) e thus) in cc
then_one into First Next one next tokens read other (later a middle fault is thence) (whole x between b rest also thus) =
    let e = one tokens (Ok (a, middle)) (Ok (x, between)) is also in
    let f = next a middle (Err fault) (Ok (b, rest)) thence (subst (Goes Next (Ok (b, rest))) e thus) in absurd (cc)
then_one into First Next one next tokens read other (whole a middle b rest is thence) (broken second also) =
    let e = one tokens (Ok (a, middle)) (Err second) is also in absurd (cc)
then_one into First Next one next tokens read other (whole a middle b rest is thence) (later x between second also thus) =
    let e = one tokens (Ok (a, middle)) (Ok (x, between)) is also in
    let f = next a middle (Ok (b, rest)) (Err second) thence (subst (Goes Next (Err second)) e thus) in absurd (cc)
then_one into First Next one next tokens read other (whole a middle b rest is thence) (whole x between y left also thus) =
    let e = one tokens (Ok (a, middle)) (Ok (x, between)) is also in
    let f = next a middle (Ok (b, rest)) (Ok (y, left)) thence (subst (Goes Next (Ok (y, left))) e thus) in
    ap (λ r. joined_read into r (Ok (y, left))) e ∙ ap (joined_read into (Ok (a, middle))) f

-- what comes behind one unit more
abbrev Onward : {A : Type 0} → (List A → List CssToken → Read A → Type 0) → (List A → List CssToken → Bool) → List A → Read (List A) → Read A → Type 0
Onward Is stops units outcome (Ok read) = Many Is stops (units ++ (read.0 ∷ [])) read.1 outcome
Onward Is stops units outcome (Err fault) = Unit {0}

pub many_one : {A : Type 0} (Is : List A → List CssToken → Read A → Type 0) (stops : List A → List CssToken → Bool) → ((units : List A) → IsOne (Is units)) → (units : List A) → IsOne (Many Is stops units)
many_one Is stops one units tokens read other (stopped _ _ off) (stopped _ _ too) = refl
many_one Is stops one units tokens read other (stopped _ _ off) (breaks _ _ fault on is) = absurd (cc)
many_one Is stops one units tokens read other (stopped _ _ off) (more _ _ a middle _ on is reads) = absurd (cc)
many_one Is stops one units tokens read other (breaks _ _ fault on is) (stopped _ _ off) = absurd (cc)
many_one Is stops one units tokens read other (breaks _ _ fault on is) (breaks _ _ second too also) =
    let e = one units tokens (Err fault) (Err second) is also in cc
many_one Is stops one units tokens read other (breaks _ _ fault on is) (more _ _ a middle _ too also reads) =
    let e = one units tokens (Err fault) (Ok (a, middle)) is also in absurd (cc)
many_one Is stops one units tokens read other (more _ _ a middle _ on is reads) (stopped _ _ off) = absurd (cc)
many_one Is stops one units tokens read other (more _ _ a middle _ on is reads) (breaks _ _ second too also) =
    let e = one units tokens (Ok (a, middle)) (Err second) is also in absurd (cc)
many_one Is stops one units tokens read other (more _ _ a middle _ on is reads) (more _ _ b between _ too also others) =
    let e = one units tokens (Ok (a, middle)) (Ok (b, between)) is also in
    many_one Is stops one (units ++ (a ∷ [])) middle read other reads (subst (Onward Is stops units other) e others)

seen_read : {A B : Type 0} → (A → B) → Read A → Read B
seen_read as_seen (Ok read) = Ok (as_seen read.0, read.1)
seen_read as_seen (Err fault) = Err fault

pub seen_one : {A B : Type 0} (as_seen : A → B) (First : List CssToken → Read A → Type 0) → IsOne First → IsOne (Seen as_seen First)
unfolding seen_read
seen_one as_seen First one tokens read other (unseen fault is) (unseen second also) = let e = one tokens (Err fault) (Err second) is also in cc
seen_one as_seen First one tokens read other (unseen fault is) (seen a rest also) = let e = one tokens (Err fault) (Ok (a, rest)) is also in absurd (cc)
seen_one as_seen First one tokens read other (seen a rest is) (unseen second also) = let e = one tokens (Ok (a, rest)) (Err second) is also in absurd (cc)
seen_one as_seen First one tokens read other (seen a rest is) (seen b left also) = ap (seen_read as_seen) (one tokens (Ok (a, rest)) (Ok (b, left)) is also)

listed_one : {A : Type 0} (Item : List A → List CssToken → Read A → Type 0) → ((before : List A) → IsOne (Item before)) → IsOne (Listed Item)
listed_one {A} Item one =
    then_one (second {A = A} {B = List A}) (Item []) (λ first. Many (λ before tokens. Item before (behind_first tokens)) no_comma (first ∷ [])) (one [])
    (λ first. many_one (λ before tokens. Item before (behind_first tokens)) no_comma (λ before tokens. one before (behind_first tokens)) (first ∷ []))

braced_one : {A : Type 0} (end : ℕ) (Inner : List CssToken → Read A → Type 0) → IsOne Inner → IsOne (Braced end Inner)
braced_one {A} end Inner one =
    then_one (λ (brace : CssToken) (inner : A). inner) (Exactly (token_at is_left_brace end)) (λ brace. Then (λ (inner : A) (close : CssToken). inner) Inner (λ inner. Exactly (token_at is_right_brace end)))
    (exactly_one (token_at is_left_brace end))
    (λ brace. then_one (λ (inner : A) (close : CssToken). inner) Inner (λ inner. Exactly (token_at is_right_brace end)) one (λ inner. exactly_one (token_at is_right_brace end)))

declares_one : (context : Context) (text : List ℕ) (end : ℕ) → IsOne (Declares context text end)
declares_one context text end tokens (Ok read) (Ok other) is also =
    let same = one_list context text tokens read.0 other.0 read.1 other.1 is also in
    ap (λ (d : List Decl). let r : Read (List Decl) = Ok (d, other.1) in r) same.0 ∙ ap (λ (t : List CssToken). let r : Read (List Decl) = Ok (read.0, t) in r) same.1
declares_one context text end tokens (Ok read) (Err fault) is also = absurd (good_is_not_faulty context text end tokens read.0 read.1 fault is also)
declares_one context text end tokens (Err fault) (Ok read) is also = absurd (good_is_not_faulty context text end tokens read.0 read.1 fault also is)
declares_one context text end tokens (Err fault) (Err other) is also = ap (λ (f : SheetFault). let r : Read (List Decl) = Err f in r) (one_fault context text end tokens fault other is also)

selectors_one : (text : List ℕ) (end : ℕ) → IsOne (Selectors text end)
selectors_one text end =
    listed_one (λ before. Selector text end)
    (λ before. seen_one compound_of (Parts text end []) (many_one (λ parts. Exactly (part_at text end)) (ends_compound text) (λ parts. exactly_one (part_at text end)) []))

rule_one : (text : List ℕ) (end : ℕ) → IsOne (IsRule text end)
rule_one text end =
    then_one rule_of (Selectors text end) (λ selectors. Braced end (Declares Rule text end)) (selectors_one text end) (λ selectors. braced_one end (Declares Rule text end) (declares_one Rule text end))

block_one : (text : List ℕ) (end : ℕ) (given : List ℕ) → IsOne (OneBlock text end given)
block_one text end given =
    then_one block_of (Offsets text end given) (λ offsets. Braced end (Declares Block text end))
    (listed_one (λ before. Exactly (offset_at text end (given ++ before))) (λ before. exactly_one (offset_at text end (given ++ before))))
    (λ offsets. braced_one end (Declares Block text end) (declares_one Block text end))

blocks_one : (text : List ℕ) (end : ℕ) → IsOne (Blocks text end)
blocks_one text end = many_one (λ before. OneBlock text end (given_in before)) are_closed (λ before. block_one text end (given_in before)) []

keyframes_one : (text : List ℕ) (end : ℕ) → IsOne (AreKeyframes text end)
keyframes_one text end =
    then_one keyframes_of (Exactly (head_at text end)) (λ name. Braced end (Blocks text end)) (exactly_one (head_at text end)) (λ name. braced_one end (Blocks text end) (blocks_one text end))

item_one : (b : Bool) (text : List ℕ) (end : ℕ) → IsOne (item_by b text end)
item_one true text end = keyframes_one text end
item_one false text end = rule_one text end

pub items_one : (text : List ℕ) (end : ℕ) → IsOne (Items text end [])
items_one text end = many_one (λ before. IsItem text end) is_end_behind (λ before tokens. item_one (begins is_at_word tokens) text end tokens) []
