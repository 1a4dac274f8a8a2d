-- The sets of a sheet are as the cascade needs them.
use Rattle.std.proofs.Common.{◌≡◌, ℕ, zero, suc, ◌+◌, ◌-◌, ◌<◌, ◌≤◌, ◌⊎◌, inl, inr, Bool, true, false, cond, List, [], ◌∷◌, ◌++◌, length, Option, Some, None, Result, Ok, Err, refl, sym, ap, ◌∙◌, subst, arith, length-append, length-set}
use Rattle.std.specs.Prelude.{ℤ, pos, negsuc, codes, ◌^◌, nat_le, All, IfSome, slice_set, slice_get}
use Rattle.std.specs.List.{AllByRecursion as Each}
use Rattle.std.specs.Map.{lookup}
use Rattle.std.specs.Str.{bytes_eq}
use Rattle.std.proofs.lemmas.Bool.{leb-true}
use Rattle.std.proofs.lemmas.List.Elements.{All-from_recursion}
use Rattle.page_model.specs.declared.keyframe.KeyframeSet.{KeyframeSet}
use Rattle.page_model.specs.declared.rule.Decl.{Decl}
use Rattle.style_tokens.specs.declared.token.CssKind.{CssKind}
use Rattle.style_tokens.specs.declared.token.CssToken.{CssToken}
use Rattle.style_tokens.specs.CssTokens.{AreTokens, Begins}
use Rattle.style_tokens.specs.CssTokens.Begins.{nothing, gap, token}
use Rattle.style_tokens.proofs.CssShorter.{gap_shorter, front_shorter}
use Rattle.css_words.specs.declared.fault.ValueFault.{ValueFault}
use Rattle.css_quantities.specs.Quantities.{percentage_of}
use Rattle.css_words.specs.Words.{words}
use Rattle.css_declarations.specs.declared.context.Context.TheVariants.{Block}
use Rattle.css_declarations.specs.declared.fault.SheetFault.{SheetFault}
use Rattle.css_declarations.specs.declared.fault.SheetFault.TheVariants.{BadSheet, BadKeyframes}
use Rattle.css_declarations.specs.DeclarationReading.{after}
use Rattle.css_declarations.specs.ReadyDecls.{IsReadyDecl}
use Rattle.css_declarations.specs.TokenKinds.{begins, is_word, place_of, is_left_brace, is_right_brace}
use Rattle.css_declarations.proofs.PairLemmas.{each_append}
use Rattle.css_parts.specs.KeyframeGrammar.{Blocks, FrameBlock, Offsets, OneBlock, are_closed, block_of, given_in, head_at, is_at_word, is_given, is_percentage, measured, new_offset, offset_at, said_at, set_of, within_set}
use Rattle.css_selectors.specs.Readings.{Read, Exactly, Then, Many, Listed, Braced, Declares, behind_first, last as second, no_comma, token_at}
use Rattle.css_selectors.specs.Readings.Then.{broken, later, whole}
use Rattle.css_selectors.specs.Readings.Many.{stopped, breaks, more}
use Rattle.css_reader.specs.ReadySheet.{IsReadySet, IsReadySheet, AreReadyRules}
use Rattle.css_reader.specs.SheetGrammar.{AreKeyframes, IsItem, IsRule, Item, Items, is_end_behind, item_by, keyframes, rule, sheet_behind, sheet_of, with_item}
use Rattle.css_reader.specs.SheetState.{AreNumbered, SheetState, no_rules, set_named, with_set, with_set_at}
use Rattle.css_parts.proofs.ReadyFrames.{IsGoodBlock, set_good}
use Rattle.css_reader.proofs.ReadyRules.{body_values}
use Rattle.css_reader.proofs.SheetLemmas.{named_within, numbered_one_more}
use Rattle.css_reader.proofs.SheetReading.{item_shorter}

-- what is read one by one is good, where each is
abbrev EachRead : {A : Type 0} → (A → Type 0) → Read (List A) → Type 0
EachRead P (Ok read) = Each P read.0
EachRead P (Err fault) = Unit {0}

abbrev OneRead : {A : Type 0} → (A → Type 0) → Read A → Type 0
OneRead P (Ok read) = P read.0
OneRead P (Err fault) = Unit {0}

many_each : {A : Type 0} (P : A → Type 0) (Is : List A → List CssToken → Read A → Type 0) (stops : List A → List CssToken → Bool)
    → ((units : List A) (tokens : List CssToken) (read : Read A) → Is units tokens read → OneRead P read) → (units : List A) (tokens : List CssToken) (read : Read (List A)) → Each P units
    → Many Is stops units tokens read → EachRead P read
many_each P Is stops one units tokens read each (stopped _ _ off) = each
many_each P Is stops one units tokens read each (breaks _ _ fault on is) = tt
many_each P Is stops one units tokens read each (more _ _ unit middle _ on is reads) =
    many_each P Is stops one (units ++ (unit ∷ [])) middle read (each_append P units (unit ∷ []) each (one units tokens (Ok (unit, middle)) is, tt)) reads

listed_each : {A : Type 0} (P : A → Type 0) (Item : List A → List CssToken → Read A → Type 0) → ((before : List A) (tokens : List CssToken) (read : Read A) → Item before tokens read → OneRead P read)
    → (tokens : List CssToken) (read : Read (List A)) → Listed Item tokens read → EachRead P read
listed_each P Item one tokens read (broken fault is) = tt
listed_each P Item one tokens read (later first middle fault is also) = tt
listed_each P Item one tokens read (whole first middle all rest is reads) =
    many_each P (λ before tokens. Item before (behind_first tokens)) no_comma (λ before tokens. one before (behind_first tokens)) (first ∷ []) middle (Ok (all, rest))
    (one [] tokens (Ok (first, middle)) is, tt) reads

-- an offset is up to 100%
abbrev Fits : ℕ → Type 0
Fits offset = offset ≤ 10000

within_fits : (place : ℕ) (rest : List CssToken) (hundredths : ℤ) → OneRead Fits (within_set place rest hundredths)
within_fits place rest (pos n) = test (nat_le n 10000) refl where
  test : (b : Bool) → nat_le n 10000 ≡ b → OneRead Fits (cond b (Ok (n, rest)) (Err (BadKeyframes place)))
  test true fits = leb-true n 10000 fits
  test false fits = tt
within_fits place rest (negsuc n) = tt

measured_fits : (place : ℕ) (rest : List CssToken) (read : Result ℤ ValueFault) → OneRead Fits (measured place rest read)
measured_fits place rest (Ok hundredths) = within_fits place rest hundredths
measured_fits place rest (Err fault) = tt

said_fits : (text : List ℕ) (end : ℕ) (tokens : List CssToken) → OneRead Fits (said_at text end tokens)
unfolding said_at
said_fits text end [] = tt
said_fits text end (head ∷ rest) = from (is_word (codes "from") text head) (is_word (codes "to") text head) (is_percentage text head) where
  from : (a b c : Bool) → OneRead Fits (cond a (Ok (0, rest)) (cond b (Ok (10000, rest)) (cond c (measured head.place.from rest (percentage_of (words text (head ∷ []))))
      (Err (BadSheet head.place.from)))))
  from true b c = let least : 0 ≤ 10000 = omega arith in least
  from false true c = let most : 10000 ≤ 10000 = omega arith in most
  from false false true = measured_fits head.place.from rest (percentage_of (words text (head ∷ [])))
  from false false false = tt

offset_fits : (text : List ℕ) (end : ℕ) (given : List ℕ) (tokens : List CssToken) (read : Read ℕ) → Exactly (offset_at text end given) tokens read → OneRead Fits read
unfolding offset_at
offset_fits text end given tokens read is = subst (OneRead Fits) (sym is) (by_said (said_at text end tokens) (said_fits text end tokens)) where
  new : (said : ℕ × List CssToken) → Fits said.0 → (b : Bool) → OneRead Fits (cond b (Err (BadKeyframes (place_of end tokens))) (Ok said))
  new said fits true = tt
  new said fits false = fits

  by_said : (said : Read ℕ) → OneRead Fits said → OneRead Fits (after said (new_offset given (place_of end tokens)))
  by_said (Err fault) fits = tt
  by_said (Ok said) fits = new said fits (is_given given said.0)

-- blocks are good
block_good : (text : List ℕ) (end : ℕ) (given : List ℕ) (tokens : List CssToken) (read : Read FrameBlock) → OneBlock text end given tokens read → OneRead IsGoodBlock read
block_good text end given tokens read (broken fault is) = tt
block_good text end given tokens read (later offsets middle fault is also) = tt
block_good text end given tokens read (whole offsets middle decls rest is body) = record {
  offsets = listed_each Fits (λ before. Exactly (offset_at text end (given ++ before))) (λ before. offset_fits text end (given ++ before)) tokens (Ok (offsets, middle)) is;
  values = body_values Block text end middle rest decls body;
}

blocks_in : {A : Type 0} (P : A → Type 0) (end : ℕ) (Inner : List CssToken → Read A → Type 0) → ((tokens : List CssToken) (read : Read A) → Inner tokens read → OneRead P read)
    → (tokens : List CssToken) (read : Read A) → Braced end Inner tokens read → OneRead P read
blocks_in P end Inner one tokens read (broken fault is) = tt
blocks_in P end Inner one tokens read (later brace middle fault is also) = tt
blocks_in P end Inner one tokens read (whole brace middle inner rest is (whole _ between close _ within closes)) = one middle (Ok (inner, between)) within

blocks_good : (text : List ℕ) (end : ℕ) (tokens : List CssToken) (read : Read (List FrameBlock)) → Blocks text end tokens read → OneRead (Each IsGoodBlock) read
blocks_good text end tokens (Ok read) is = many_each IsGoodBlock (λ before. OneBlock text end (given_in before)) are_closed (λ before. block_good text end (given_in before)) [] tokens (Ok read) tt is
blocks_good text end tokens (Err fault) is = tt

-- an item's set is good
abbrev IsGoodItem : Item → Type 0
IsGoodItem (rule one) = Unit {0}
IsGoodItem (keyframes name set) = IsReadySet set

rule_good : (text : List ℕ) (end : ℕ) (tokens : List CssToken) (read : Read Item) → IsRule text end tokens read → OneRead IsGoodItem read
rule_good text end tokens read (broken fault is) = tt
rule_good text end tokens read (later selectors middle fault is also) = tt
rule_good text end tokens read (whole selectors middle decls rest is body) = tt

keyframes_good : (text : List ℕ) (end : ℕ) (tokens : List CssToken) (read : Read Item) → AreKeyframes text end tokens read → OneRead IsGoodItem read
keyframes_good text end tokens read (broken fault is) = tt
keyframes_good text end tokens read (later name middle fault is also) = tt
keyframes_good text end tokens read (whole name middle blocks rest is body) =
    inl (set_good blocks (blocks_in (Each IsGoodBlock) end (Blocks text end) (blocks_good text end) middle (Ok (blocks, rest)) body))

item_good : (b : Bool) (text : List ℕ) (end : ℕ) (tokens : List CssToken) (read : Read Item) → item_by b text end tokens read → OneRead IsGoodItem read
item_good true text end tokens read is = keyframes_good text end tokens read is
item_good false text end tokens read is = rule_good text end tokens read is

items_good : (text : List ℕ) (end : ℕ) (tokens rest : List CssToken) (items : List Item) → Items text end [] tokens (Ok (items, rest)) → Each IsGoodItem items
items_good text end tokens rest items are =
    many_each IsGoodItem (λ before. IsItem text end) is_end_behind (λ before tokens. item_good (begins is_at_word tokens) text end tokens) [] tokens (Ok (items, rest)) tt are

-- there are no more items than tokens, and no more tokens than bytes
abbrev IsFew : ℕ → Read (List Item) → Type 0
IsFew most (Ok read) = length read.0 ≤ most
IsFew most (Err fault) = Unit {0}

fewer : (less most : ℕ) (read : Read (List Item)) → less ≤ most → IsFew less read → IsFew most read
fewer less most (Ok read) at_most few = let f : length read.0 ≤ less = few in let goal : length read.0 ≤ most = omega arith in goal
fewer less most (Err fault) at_most few = tt

items_few : (text : List ℕ) (end : ℕ) (before : List Item) (tokens : List CssToken) (read : Read (List Item)) → Items text end before tokens read → IsFew (length before + length tokens) read
items_few text end before tokens read (stopped _ _ off) = let goal : length before ≤ length before + length tokens = omega arith in goal
items_few text end before tokens read (breaks _ _ fault on is) = tt
items_few text end before tokens read (more _ _ item middle _ on is reads) =
    let less : length middle < length tokens = item_shorter (begins is_at_word tokens) text end tokens (item, middle) is in
    let one : length (before ++ (item ∷ [])) ≡ length before + length (item ∷ []) = length-append before (item ∷ []) in
    fewer (length (before ++ (item ∷ [])) + length middle) (length before + length tokens) read (omega arith) (items_few text end (before ++ (item ∷ [])) middle read reads)

tokens_few : (end : ℕ) (bytes : List ℕ) (tokens : List CssToken) (rest : List ℕ) → Begins end bytes tokens rest → length tokens ≤ length bytes
tokens_few end bytes tokens rest (nothing _) = omega arith
tokens_few end bytes tokens rest (gap _ after _ _ is on) =
    let less : length after < length bytes = gap_shorter bytes after is in let few : length tokens ≤ length after = tokens_few end after tokens rest on in omega arith
tokens_few end bytes _ rest (token kind _ after _ tokens is on) =
    let less : length after < length bytes = front_shorter kind bytes after is.front in let few : length tokens ≤ length after = tokens_few end after tokens rest on in omega arith

-- a sheet of good items
record IsGoodSheet (most : ℕ) (sheet : SheetState) : Type 0 where
  sets : Each IsReadySet sheet.sets
  numbered : AreNumbered sheet.sets sheet.names
  few : length sheet.sets ≤ most

each_set : {A : Type 0} (P : A → Type 0) (xs : List A) (i : ℕ) (x : A) → Each P xs → P x → Each P (slice_set xs i x)
each_set P [] i x each is = tt
each_set P (y ∷ xs) zero x each is = (is, each.1)
each_set P (y ∷ xs) (suc i) x each is = (each.0, each_set P xs i x each.1 is)

put_good : (most : ℕ) (sheet : SheetState) (name : List ℕ) (set : KeyframeSet) (number : Option ℕ) → IsGoodSheet most sheet → IsReadySet set → IsGoodSheet (suc most) (with_set_at sheet name set number)
put_good most sheet name set (Some number) good is =
    let same : length (slice_set sheet.sets number set) ≡ length sheet.sets = length-set sheet.sets number set in record {
      sets = each_set IsReadySet sheet.sets number set good.sets is;
      numbered = record { one_each = good.numbered.one_each ∙ sym same; in_order = good.numbered.in_order };
      few = let f : length sheet.sets ≤ most = good.few in omega arith;
    }
put_good most sheet name set None good is = record {
  sets = each_append IsReadySet sheet.sets (set ∷ []) good.sets (is, tt);
  numbered = numbered_one_more sheet.sets sheet.names name set good.numbered;
  few = let f : length sheet.sets ≤ most = good.few in
      let one : length (sheet.sets ++ (set ∷ [])) ≡ length sheet.sets + length (set ∷ []) = length-append sheet.sets (set ∷ []) in omega arith;
}

more_items : (most : ℕ) (sheet : SheetState) → IsGoodSheet most sheet → IsGoodSheet (suc most) sheet
more_items most sheet good = record { sets = good.sets; numbered = good.numbered; few = let f : length sheet.sets ≤ most = good.few in omega arith }

item_put : (most : ℕ) (sheet : SheetState) (item : Item) → IsGoodSheet most sheet → IsGoodItem item → IsGoodSheet (suc most) (with_item sheet item)
item_put most sheet (rule one) good is = record { sets = good.sets; numbered = good.numbered; few = let f : length sheet.sets ≤ most = good.few in omega arith }
item_put most sheet (keyframes name set) good is = put_good most sheet name set (set_named sheet name) good is

sheet_good : (most : ℕ) (sheet : SheetState) (items : List Item) → IsGoodSheet most sheet → Each IsGoodItem items → IsGoodSheet (most + length items) (sheet_behind sheet items)
sheet_good most sheet [] good each = record { sets = good.sets; numbered = good.numbered; few = let f : length sheet.sets ≤ most = good.few in omega arith }
sheet_good most sheet (item ∷ items) good each =
    let inner = sheet_good (suc most) (with_item sheet item) items (item_put most sheet item good each.0) each.1 in
    record { sets = inner.sets; numbered = inner.numbered; few = let f : length (sheet_behind (with_item sheet item) items).sets ≤ suc most + length items = inner.few in omega arith }

named_good : (sheet : SheetState) → AreNumbered sheet.sets sheet.names → (name : List ℕ) → IfSome (set_named sheet name) (λ (number : ℕ). number < length sheet.sets)
named_good sheet numbered name = test (lookup (bytes_eq name) sheet.names) refl where
  test : (found : Option ℕ) → lookup (bytes_eq name) sheet.names ≡ found → IfSome found (λ (number : ℕ). number < length sheet.sets)
  test None is = tt
  test (Some number) is = named_within sheet.sets sheet.names name number numbered is

-- the sheet of items that were read
pub sheet_is_ready : (text : List ℕ) (end : ℕ) (bytes : List ℕ) (tokens rest : List CssToken) (items : List Item) → AreTokens end bytes tokens → length bytes ≤ 1048576
    → Items text end [] tokens (Ok (items, rest)) → AreReadyRules (sheet_of items).rules → IsReadySheet (sheet_of items)
sheet_is_ready text end bytes tokens rest items are_tokens short are rules =
    let start : IsGoodSheet 0 no_rules = record { sets = tt; numbered = record { one_each = refl; in_order = λ place name number found. absurd (cc) }; few = omega arith } in
    let good = sheet_good 0 no_rules items start (items_good text end tokens rest items are) in
    let some : length items ≤ 0 + length tokens = items_few text end [] tokens (Ok (items, rest)) are in
    let few_tokens : length tokens ≤ length bytes = tokens_few end bytes tokens [] are_tokens in
    let few_sets : length (sheet_of items).sets ≤ 0 + length items = good.few in
    record {
      rules = rules;
      sets = All-from_recursion IsReadySet (sheet_of items).sets good.sets;
      few_sets = omega arith;
      names = named_good (sheet_of items) good.numbered;
    }
