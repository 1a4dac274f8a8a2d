-- Offsets that are read one by one.
use Rattle.std.proofs.Common.{refl, ◌≡◌, ℕ, ◌<◌, Bool, true, false, cond, List, [], ◌∷◌, ◌++◌, length, Result, Ok, Err, sym, ap, ◌∙◌, subst, append-nil, append_assoc}
use Rattle.std.specs.BTreeSet.{BTreeSet}
use Rattle.style_tokens.specs.declared.token.CssToken.{CssToken}
use Rattle.css_declarations.specs.declared.fault.SheetFault.{SheetFault}
use Rattle.css_declarations.specs.declared.fault.SheetFault.TheVariants.{BadSheet, BadKeyframes}
use Rattle.css_declarations.specs.DeclarationFaults.{IsTold}
use Rattle.css_declarations.specs.DeclarationReading.{after}
use Rattle.css_declarations.specs.TokenKinds.{begins, is_word, place_of}
use Rattle.css_words.specs.declared.fault.ValueFault.{ValueFault}
use Rattle.css_quantities.specs.Quantities.{percentage_of}
use Rattle.css_words.specs.Words.{words}
use Rattle.std.specs.Prelude.{ℤ, pos, negsuc, codes, nat_le}
use Rattle.css_parts.specs.KeyframeGrammar.{Offsets, is_given, is_percentage, measured, new_offset, offset_at, said_at, within_set}
use Rattle.css_parts.specs.OffsetViews.{AreOffsets, Holds, IsOffsetPut, WasGiven}
use Rattle.css_selectors.specs.Readings.{Read, Exactly, behind_first, is_comma}
use Rattle.css_selectors.specs.Readings.Then.{broken}
use Rattle.css_parts.proofs.ListedLemmas.{AreListed, first_listed, next_listed, list_broken, list_ended}
use Rattle.css_selectors.proofs.ReadingLemmas.{IsAtMost, IsBehind, Keeps, behind_is_less, behind_is_rest, told_as}

-- an offset that is said, and is new
pub new_found : (text : List ℕ) (end : ℕ) (before : List ℕ) (tokens : List CssToken) (said : ℕ × List CssToken) → Ok said ≡ said_at text end tokens → is_given before said.0 ≡ false
    → Ok said ≡ offset_at text end before tokens
unfolding offset_at
new_found text end before tokens said is new =
    ap (λ b. cond b (Err (BadKeyframes (place_of end tokens))) (Ok said)) (sym new) ∙ ap (λ r. after r (new_offset before (place_of end tokens))) is

as_err : SheetFault → Read ℕ
as_err fault = Err fault

pub given_found : (text : List ℕ) (end : ℕ) (before : List ℕ) (tokens : List CssToken) (said : ℕ × List CssToken) → Ok said ≡ said_at text end tokens → (fault : SheetFault)
    → WasGiven before (place_of end tokens) said.0 fault → Err fault ≡ offset_at text end before tokens
unfolding offset_at as_err
given_found text end before tokens said is fault was =
    ap as_err was.fault_is
    ∙ ap (λ b. cond b (Err (BadKeyframes (place_of end tokens))) (Ok said)) (sym was.given) ∙ ap (λ r. after r (new_offset before (place_of end tokens))) is

pub none_said : (text : List ℕ) (end : ℕ) (before : List ℕ) (tokens : List CssToken) (fault : SheetFault) → Err fault ≡ said_at text end tokens → Err fault ≡ offset_at text end before tokens
unfolding offset_at
none_said text end before tokens fault is = ap (λ r. after r (new_offset before (place_of end tokens))) is

-- an offset as an item of a list
abbrev pub OffsetItem : List ℕ → ℕ → List ℕ → List ℕ → List CssToken → Read ℕ → Type 0
OffsetItem text end given before = Exactly (offset_at text end (given ++ before))

-- offsets so far
pub record AreSoFar (text : List ℕ) (end : ℕ) (given : List ℕ) (tokens : List CssToken) (offsets : List ℕ) (now : BTreeSet ℕ) (rest : List CssToken) : Type 0 where
  pub listed : AreListed (OffsetItem text end given) tokens offsets rest
  pub holds : Holds now (given ++ offsets)

pub first_offset : (text : List ℕ) (end : ℕ) (given : List ℕ) (tokens rest : List CssToken) (old new : List ℕ) (now : BTreeSet ℕ) → old ≡ []
    → IsOffsetPut text end given tokens old new now rest → AreSoFar text end given tokens new now rest
first_offset text end given tokens rest old new now empty put =
    let item : OffsetItem text end given [] tokens (Ok (put.offset, rest)) = subst (λ g. Exactly (offset_at text end g) tokens (Ok (put.offset, rest))) (sym (append-nil given)) put.is in
    subst (λ o. AreSoFar text end given tokens o now rest) (sym (put.new_is ∙ ap (λ o. o ++ (put.offset ∷ [])) empty))
    (record { listed = first_listed (OffsetItem text end given) tokens rest put.offset item; holds = put.holds })

pub next_offset : (text : List ℕ) (end : ℕ) (given : List ℕ) (tokens middle inner rest : List CssToken) (old new : List ℕ) (before now : BTreeSet ℕ) → AreSoFar text end given tokens old before middle
    → begins is_comma middle ≡ true → inner ≡ behind_first middle → IsOffsetPut text end (given ++ old) inner old new now rest → AreSoFar text end given tokens new now rest
next_offset text end given tokens middle inner rest old new before now so comma inner_is put =
    subst (λ o. AreSoFar text end given tokens o now rest) (sym put.new_is) (record {
      listed = next_listed (OffsetItem text end given) tokens middle inner rest old put.offset so.listed comma inner_is put.is;
      holds = subst (Holds now) (append_assoc given old (put.offset ∷ [])) put.holds;
    })

pub first_offset_broken : (text : List ℕ) (end : ℕ) (given : List ℕ) (tokens : List CssToken) (fault : SheetFault) → IsTold (λ (f : SheetFault). Exactly (offset_at text end given) tokens (Err f)) fault
    → IsTold (λ (f : SheetFault). Offsets text end given tokens (Err f)) fault
first_offset_broken text end given tokens fault is =
    told_as (λ (f : SheetFault). Exactly (offset_at text end given) tokens (Err f)) (λ (f : SheetFault). Offsets text end given tokens (Err f))
    (λ f told. broken f (subst (λ g. Exactly (offset_at text end g) tokens (Err f)) (sym (append-nil given)) told)) fault is

pub next_offset_broken : (text : List ℕ) (end : ℕ) (given : List ℕ) (tokens middle inner : List CssToken) (offsets : List ℕ) (now : BTreeSet ℕ) (fault : SheetFault) → AreSoFar text end given tokens offsets now middle
    → begins is_comma middle ≡ true → inner ≡ behind_first middle → IsTold (λ (f : SheetFault). Exactly (offset_at text end (given ++ offsets)) inner (Err f)) fault
    → IsTold (λ (f : SheetFault). Offsets text end given tokens (Err f)) fault
next_offset_broken text end given tokens middle inner offsets now fault so comma inner_is is =
    told_as (λ (f : SheetFault). Exactly (offset_at text end (given ++ offsets)) inner (Err f)) (λ (f : SheetFault). Offsets text end given tokens (Err f))
    (list_broken (OffsetItem text end given) tokens middle inner offsets so.listed comma inner_is) fault is

pub offsets_ended : (text : List ℕ) (end : ℕ) (given : List ℕ) (tokens rest : List CssToken) (offsets : List ℕ) (now : BTreeSet ℕ) → AreSoFar text end given tokens offsets now rest
    → begins is_comma rest ≡ false → AreOffsets text end given tokens offsets now rest
offsets_ended text end given tokens rest offsets now so other = record {
  are = list_ended (OffsetItem text end given) tokens rest offsets so.listed other;
  holds = so.holds;
}

-- an offset takes a token
abbrev IsOne : List CssToken → Read ℕ → Type 0
IsOne tokens (Ok said) = IsBehind tokens said.1
IsOne tokens (Err fault) = Unit {0}

within_one : (token : CssToken) (rest : List CssToken) (place : ℕ) (hundredths : ℤ) → IsOne (token ∷ rest) (within_set place rest hundredths)
within_one token rest place (pos n) = test (nat_le n 10000) where
  test : (b : Bool) → IsOne (token ∷ rest) (cond b (Ok (n, rest)) (Err (BadKeyframes place)))
  test true = record { token = token; front = []; split = refl }
  test false = tt
within_one token rest place (negsuc n) = tt

measured_one : (token : CssToken) (rest : List CssToken) (place : ℕ) (read : Result ℤ ValueFault) → IsOne (token ∷ rest) (measured place rest read)
measured_one token rest place (Ok hundredths) = within_one token rest place hundredths
measured_one token rest place (Err fault) = tt

said_one : (text : List ℕ) (end : ℕ) (tokens : List CssToken) → IsOne tokens (said_at text end tokens)
unfolding said_at
said_one text end [] = tt
said_one text end (token ∷ rest) = from (is_word (codes "from") text token) (is_word (codes "to") text token) (is_percentage text token) where
  less : IsBehind (token ∷ rest) rest
  less = record { token = token; front = []; split = refl }

  from : (a b c : Bool) → IsOne (token ∷ rest) (cond a (Ok (0, rest)) (cond b (Ok (10000, rest)) (cond c (measured token.place.from rest (percentage_of (words text (token ∷ []))))
      (Err (BadSheet token.place.from)))))
  from true b c = less
  from false true c = less
  from false false true = measured_one token rest token.place.from (percentage_of (words text (token ∷ [])))
  from false false false = tt

pub said_leaves : (text : List ℕ) (end : ℕ) (tokens rest : List CssToken) (offset : ℕ) → Ok (offset, rest) ≡ said_at text end tokens → length rest < length tokens
said_leaves text end tokens rest offset is = behind_is_less tokens rest (subst (IsOne tokens) (sym is) (said_one text end tokens))

-- the same for whatever was given before
pub record AreListing (text : List ℕ) (end : ℕ) (first now : BTreeSet ℕ) (tokens : List CssToken) (offsets : List ℕ) (rest : List CssToken) : Type 0 where
  pub so_far : (given : List ℕ) → Holds first given → AreSoFar text end given tokens offsets now rest
  pub shorter : length rest < length tokens

pub offset_keeps : (text : List ℕ) (end : ℕ) (given : List ℕ) → Keeps (Exactly (offset_at text end given))
unfolding offset_at
offset_keeps text end given tokens read is = subst (IsAtMost tokens) (sym is) (by_said (said_at text end tokens) (said_one text end tokens)) where
  new : (said : ℕ × List CssToken) → IsBehind tokens said.1 → (b : Bool) → IsAtMost tokens (cond b (Err (BadKeyframes (place_of end tokens))) (Ok said))
  new said less true = tt
  new said less false = behind_is_rest tokens said.1 less

  by_said : (said : Read ℕ) → IsOne tokens said → IsAtMost tokens (after said (new_offset given (place_of end tokens)))
  by_said (Err fault) one = tt
  by_said (Ok said) one = new said one (is_given given said.0)
