-- Where the declarations of tokens stand: of two the later one stands behind.
use Rattle.std.proofs.Common.{◌≡◌, ℕ, ◌-◌, ◌<◌, ◌≤◌, Bool, true, false, List, [], ◌∷◌, ◌++◌, length, map, Result, Ok, Err, refl, sym, ap, ◌∙◌, subst, arith, append_assoc}
use Rattle.std.specs.Prelude.{◌&&◌, not, ◌==◌, All}
use Rattle.std.specs.List.{AllByRecursion as Each, list_all}
use Rattle.std.proofs.lemmas.List.Elements.{All-from_recursion, recursion_from_All}
use Rattle.page_model.specs.declared.easing.Easing.{Easing}
use Rattle.page_model.specs.declared.rule.Decl.{Decl}
use Rattle.page_model.specs.declared.rule.Longhand.{Longhand}
use Rattle.page_model.specs.Cascade.{number_of}
use Rattle.style_tokens.specs.declared.token.CssToken.{CssToken}
use Rattle.style_tokens.specs.CssTokens.{AreTokens, Begins}
use Rattle.style_tokens.specs.CssTokens.Begins.{nothing, gap, token}
use Rattle.style_tokens.proofs.CssShorter.{gap_shorter, front_shorter}
use Rattle.css_words.specs.declared.fault.ValueFault.{ValueFault}
use Rattle.css_columns.specs.declared.item.Shorthand.{Shorthand}
use Rattle.css_values.specs.declared.types.Property.{Property}
use Rattle.css_easings.specs.Easings.{easing_of}
use Rattle.css_items.specs.Lists.{list_of}
use Rattle.css_values.specs.ShorthandGrammar.{item_of}
use Rattle.css_values.specs.ValidValues.{IsLonghand}
use Rattle.css_columns.specs.Columns.{columns}
use Rattle.css_values.specs.ValueGrammar.{declaration_of, is_shorthand, longhand_of}
use Rattle.css_words.specs.Words.{Word, mapped, words}
use Rattle.std.specs.Prelude.{if◌then◌else◌}
use Rattle.page_model.specs.ValidScene.{IsEasing}
use Rattle.css_easings.proofs.ValidEasings.{easing_is}
use Rattle.css_values.proofs.ValidLonghands.{declaration_is}
use Rattle.css_declarations.specs.declared.context.Context.{Context}
use Rattle.css_declarations.specs.DeclarationGrammar.{AreDeclarations, AreUnits, IsMark, IsUnit, decl_of, has_one_easing, joined, one_easing, value_in}
use Rattle.css_declarations.specs.DeclarationGrammar.IsMark.{unmarked, marked}
use Rattle.css_declarations.specs.DeclarationGrammar.IsUnit.{semicolon, declaration}
use Rattle.css_declarations.specs.ReadyDecls.{AreApart, AreReadyDecls, IsReadyDecl}
use Rattle.css_declarations.specs.TokenRuns.Run.{none, more}
use Rattle.css_declarations.proofs.ListLemmas.{joined_more}
use Rattle.css_declarations.proofs.PairLemmas.{Pairs, each_append, each_as, each_back, each_mapped, each_of, pairs_append, pairs_as, pairs_at, pairs_mapped}

-- a place before some tokens, and tokens whose places rise
abbrev pub Before : ℕ → List CssToken → Type 0
Before place tokens = Each (λ (t : CssToken). place < t.place.from) tokens

abbrev pub Rising : List CssToken → Type 0
Rising [] = Unit {0}
Rising (first ∷ rest) = Before first.place.from rest × Rising rest

rising_back : (front rest : List CssToken) → Rising (front ++ rest) → Rising rest
rising_back [] rest rising = rising
rising_back (first ∷ front) rest rising = rising_back front rest rising.1

-- the tokens of a scan rise, each from where its bytes begin
begun : (end : ℕ) (bytes : List ℕ) (tokens : List CssToken) (rest : List ℕ) → Begins end bytes tokens rest → length bytes ≤ end
    → Each (λ (t : CssToken). end - length bytes ≤ t.place.from) tokens × Rising tokens
begun end bytes tokens rest (nothing _) fits = (tt, tt)
begun end bytes tokens rest (gap _ after _ _ is on) fits =
    let less : length after < length bytes = gap_shorter bytes after is in
    let inner = begun end after tokens rest on (omega arith) in
    (each_as (λ (t : CssToken). end - length after ≤ t.place.from) (λ (t : CssToken). end - length bytes ≤ t.place.from) (λ t h. omega arith) tokens inner.0, inner.1)
begun end bytes _ rest (token kind _ after _ tokens is on) fits =
    let less : length after < length bytes = front_shorter kind bytes after is.front in
    let inner = begun end after tokens rest on (omega arith) in (
      (omega arith, each_as (λ (t : CssToken). end - length after ≤ t.place.from) (λ (t : CssToken). end - length bytes ≤ t.place.from) (λ t h. omega arith) tokens inner.0),
      (each_as (λ (t : CssToken). end - length after ≤ t.place.from) (λ (t : CssToken). end - length bytes < t.place.from) (λ t h. omega arith) tokens inner.0, inner.1),
    )

pub tokens_rise : (end : ℕ) (bytes : List ℕ) (tokens : List CssToken) → AreTokens end bytes tokens → length bytes ≤ end → Rising tokens
tokens_rise end bytes tokens are fits = (begun end bytes tokens [] are fits).1

-- some tokens end with others
pub record IsRest (tokens rest : List CssToken) : Type 0 where
  pub front : List CssToken
  pub split : tokens ≡ front ++ rest

pub rest_rest : (tokens middle rest : List CssToken) → IsRest tokens middle → IsRest middle rest → IsRest tokens rest
rest_rest tokens middle rest is also = record {
  front = is.front ++ also.front;
  split = is.split ∙ ap (λ r. is.front ++ r) also.split ∙ sym (append_assoc is.front also.front rest);
}

before_rest : (place : ℕ) (tokens rest : List CssToken) → IsRest tokens rest → Before place tokens → Before place rest
before_rest place tokens rest is before = each_back (λ (t : CssToken). place < t.place.from) is.front rest (subst (Before place) is.split before)

rising_rest : (tokens rest : List CssToken) → IsRest tokens rest → Rising tokens → Rising rest
rising_rest tokens rest is rising = rising_back is.front rest (subst Rising is.split rising)

-- declarations stand in tokens before the rest, in order, and are good
pub record ArePlaced (tokens rest : List CssToken) (decls : List Decl) : Type 0 where
  pub rest_is : IsRest tokens rest
  pub later : (place : ℕ) → Before place tokens → Each (λ (d : Decl). place < d.place) decls
  pub passed : Rising tokens → Each (λ (d : Decl). Before d.place rest) decls
  pub apart : Rising tokens → Pairs AreApart decls
  pub values : Each IsReadyDecl decls

pub none_placed : (tokens rest : List CssToken) → IsRest tokens rest → ArePlaced tokens rest []
none_placed tokens rest is = record { rest_is = is; later = λ place before. tt; passed = λ rising. tt; apart = λ rising. tt; values = tt }

pub placed_then : (tokens middle rest : List CssToken) (decls others : List Decl) → ArePlaced tokens middle decls → ArePlaced middle rest others → ArePlaced tokens rest (decls ++ others)
placed_then tokens middle rest decls others here there = record {
  rest_is = rest_rest tokens middle rest here.rest_is there.rest_is;
  later = λ place before. each_append (λ (d : Decl). place < d.place) decls others (here.later place before) (there.later place (before_rest place tokens middle here.rest_is before));
  passed = λ rising. each_append (λ (d : Decl). Before d.place rest) decls others
      (each_as (λ (d : Decl). Before d.place middle) (λ (d : Decl). Before d.place rest) (λ d before. before_rest d.place middle rest there.rest_is before) decls (here.passed rising))
      (there.passed (rising_rest tokens middle here.rest_is rising));
  apart = λ rising. pairs_append AreApart decls others (here.apart rising) (there.apart (rising_rest tokens middle here.rest_is rising))
      (each_as (λ (d : Decl). Before d.place middle) (λ (d : Decl). Each (AreApart d) others)
      (λ d before. each_as (λ (e : Decl). d.place < e.place) (AreApart d) (λ e less same place. omega arith) others (there.later d.place before)) decls (here.passed rising));
  values = each_append IsReadyDecl decls others here.values there.values;
}

-- the longhands of one declaration are of different properties
abbrev Differ : Longhand → Longhand → Type 0
Differ a b = number_of a ≡ number_of b → ⊥

abbrev are_different : List Longhand → Bool
are_different [] = true
are_different (a ∷ rest) = list_all (λ b. not (number_of a == number_of b)) rest && are_different rest

both : (a b : Bool) → (a && b) ≡ true → (a ≡ true) × (b ≡ true)
both true b is = (refl, is)
both false b is = absurd (cc)

differ_each : (a : Longhand) (rest : List Longhand) → list_all (λ b. not (number_of a == number_of b)) rest ≡ true → Each (Differ a) rest
differ_each a [] is = tt
differ_each a (b ∷ rest) is =
    let parts = both (not (number_of a == number_of b)) (list_all (λ b. not (number_of a == number_of b)) rest) is in
    (differ_from (number_of a) (number_of b) parts.0, differ_each a rest parts.1) where
      differ_from : (m n : ℕ) → not (m == n) ≡ true → m ≡ n → ⊥
      differ_from m n test same = grind arith

differ_all : (longhands : List Longhand) → are_different longhands ≡ true → Pairs Differ longhands
differ_all [] is = tt
differ_all (a ∷ rest) is =
    let parts = both (list_all (λ b. not (number_of a == number_of b)) rest) (are_different rest) is in
    (differ_each a rest parts.0, differ_all rest parts.1)

columns_differ : (items : List Shorthand) → are_different (columns items) ≡ true
columns_differ items = refl

mapped_different : {A : Type 0} (f : A → List Longhand) → ((x : A) → are_different (f x) ≡ true) → (found : Result A ValueFault) (longhands : List Longhand) → mapped f found ≡ Ok longhands
    → are_different longhands ≡ true
mapped_different f all (Ok x) longhands is = let same : f x ≡ longhands = cc in subst (λ l. are_different l ≡ true) same (all x)
mapped_different f all (Err fault) longhands is = absurd (cc)

value_differs : (context : Context) (property : Property) (words : List Word) (longhands : List Longhand) → value_in context property words ≡ Ok longhands → are_different longhands ≡ true
unfolding value_in declaration_of
value_differs context property words longhands is = test (has_one_easing context property) (is_shorthand property) is where
  test : (a b : Bool) → (if a then mapped one_easing (easing_of words) else (if b then mapped columns (list_of item_of words) else mapped (λ longhand. longhand ∷ []) (longhand_of property words))) ≡ Ok longhands
      → are_different longhands ≡ true
  test true b h = mapped_different one_easing (λ easing. refl) (easing_of words) longhands h
  test false true h = mapped_different columns columns_differ (list_of item_of words) longhands h
  test false false h = mapped_different (λ longhand. longhand ∷ []) (λ longhand. refl) (longhand_of property words) longhands h

-- and in their limits
easing_valid : (words : List Word) (found : Result Easing ValueFault) → easing_of words ≡ found → (longhands : List Longhand) → mapped one_easing found ≡ Ok longhands → Each IsLonghand longhands
easing_valid words (Ok easing) e longhands is =
    let same : one_easing easing ≡ longhands = cc in
    let items : All IsEasing (easing ∷ []) = All-from_recursion IsEasing (easing ∷ []) (easing_is words easing e, tt) in
    subst (Each IsLonghand) same (record { some = omega arith; each = items }, tt)
easing_valid words (Err fault) e longhands is = absurd (cc)

value_valid : (context : Context) (property : Property) (words : List Word) (longhands : List Longhand) → value_in context property words ≡ Ok longhands → Each IsLonghand longhands
unfolding value_in
value_valid context property words longhands is = test (has_one_easing context property) is where
  test : (a : Bool) → (if a then mapped one_easing (easing_of words) else declaration_of property words) ≡ Ok longhands → Each IsLonghand longhands
  test true h = easing_valid words (easing_of words) refl longhands h
  test false h = recursion_from_All IsLonghand longhands (declaration_is property words longhands h)

-- one unit
behind_mark : (context : Context) (text : List ℕ) (behind : List CssToken) (important : Bool) (rest : List CssToken) → IsMark context text behind important rest → IsRest behind rest
behind_mark context text behind important rest (unmarked _ is) = record { front = []; split = refl }
behind_mark context text behind important rest (marked bang word _ a b c) = record { front = bang ∷ (word ∷ []); split = refl }

placed_there : (important : Bool) (place : ℕ) (longhands : List Longhand) (name : CssToken) (onward rest : List CssToken) → place ≡ name.place.from → IsRest onward rest
    → Each IsLonghand longhands → are_different longhands ≡ true → ArePlaced (name ∷ onward) rest (map (decl_of important place) longhands)
placed_there important place longhands name onward rest at_name is valid different = record {
  rest_is = record { front = name ∷ is.front; split = ap (λ r. name ∷ r) is.split };
  later = λ p before. each_mapped (λ (d : Decl). p < d.place) (decl_of important place) longhands
      (each_of (λ (l : Longhand). p < place) (λ l. subst (λ q. p < q) (sym at_name) before.0) longhands);
  passed = λ rising. each_mapped (λ (d : Decl). Before d.place rest) (decl_of important place) longhands
      (each_of (λ (l : Longhand). Before place rest) (λ l. before_rest place onward rest is (subst (λ q. Before q onward) (sym at_name) rising.0)) longhands);
  apart = λ rising. pairs_mapped AreApart (decl_of important place) longhands
      (pairs_as Differ (λ (a b : Longhand). AreApart (decl_of important place a) (decl_of important place b)) (λ a b differ same there. differ same) longhands (differ_all longhands different));
  values = each_mapped IsReadyDecl (decl_of important place) longhands valid;
}

unit_placed : (context : Context) (text : List ℕ) (tokens : List CssToken) (decls : List Decl) (rest : List CssToken) → IsUnit context text tokens decls rest → ArePlaced tokens rest decls
unit_placed context text tokens decls rest (semicolon first _ is) = none_placed (first ∷ rest) rest (record { front = first ∷ []; split = refl })
unit_placed context text tokens decls rest (declaration _ _ _ is) =
    let v = is.valued in
    let behind : IsRest (v.colon ∷ (v.value ++ is.behind)) rest =
    rest_rest (v.colon ∷ (v.value ++ is.behind)) is.behind rest (record { front = v.colon ∷ v.value; split = refl }) (behind_mark context text is.behind is.important rest is.mark) in
    subst (λ t. ArePlaced t rest decls) (sym v.split)
    (subst (ArePlaced (v.name ∷ (v.colon ∷ (v.value ++ is.behind))) rest) (sym is.decls_are)
    (placed_there is.important v.name.place.from is.longhands v.name (v.colon ∷ (v.value ++ is.behind)) rest refl behind
    (value_valid context v.property (words text v.value) is.longhands v.spells) (value_differs context v.property (words text v.value) is.longhands v.spells)))

units_placed : (context : Context) (text : List ℕ) (tokens : List CssToken) (units : List (List Decl)) (rest : List CssToken) → AreUnits context text tokens units rest → ArePlaced tokens rest (joined units)
units_placed context text tokens units rest none = none_placed tokens tokens (record { front = []; split = refl })
units_placed context text tokens units rest (more before middle unit _ run is) =
    subst (ArePlaced tokens rest) (sym (joined_more before unit))
    (placed_then tokens middle rest (joined before) unit (units_placed context text tokens before middle run) (unit_placed context text middle unit rest is))

pub declarations_placed : (context : Context) (text : List ℕ) (tokens : List CssToken) (decls : List Decl) (rest : List CssToken) → AreDeclarations context text tokens decls rest → ArePlaced tokens rest decls
declarations_placed context text tokens decls rest are =
    subst (ArePlaced tokens rest) (sym are.decls_are) (units_placed context text tokens are.units rest are.are_units)

-- declarations that stand apart are ready
pub are_ready : (decls : List Decl) → Each IsReadyDecl decls → Pairs AreApart decls → AreReadyDecls decls
are_ready decls values apart = record {
  values = All-from_recursion IsReadyDecl decls values;
  apart = λ i j first second less is also. pairs_at AreApart decls apart i j first second less is also;
}
