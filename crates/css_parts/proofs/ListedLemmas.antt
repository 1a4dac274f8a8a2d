-- Things with commas between, read one by one.
use Rattle.std.proofs.Common.{◌≡◌, ◌<◌, ◌≤◌, true, false, List, [], ◌∷◌, ◌++◌, length, Ok, Err, refl, subst, arith}
use Rattle.style_tokens.specs.declared.token.CssToken.{CssToken}
use Rattle.css_declarations.specs.declared.fault.SheetFault.{SheetFault}
use Rattle.css_declarations.specs.TokenKinds.{begins}
use Rattle.css_selectors.specs.Readings.{Read, Many, Listed, no_comma, behind_first, is_comma}
use Rattle.css_selectors.specs.Readings.Then.{later, whole}
use Rattle.css_selectors.specs.Readings.Many.{stopped, breaks, more}
use Rattle.css_selectors.proofs.ReadingLemmas.{Leads}

abbrev pub Further : {A : Type 0} → (List A → List CssToken → Read A → Type 0) → List A → List CssToken → Read (List A) → Type 0
Further Item = Many (λ before tokens. Item before (behind_first tokens)) no_comma

-- some were read, and the others lead to all
pub record AreListed {A : Type 0} (Item : List A → List CssToken → Read A → Type 0) (tokens : List CssToken) (items : List A) (rest : List CssToken) : Type 0 where
  pub one : A
  pub middle : List CssToken
  pub is_one : Item [] tokens (Ok (one, middle))
  pub leads : Leads (Further Item) (one ∷ []) middle items rest

pub first_listed : {A : Type 0} (Item : List A → List CssToken → Read A → Type 0) (tokens rest : List CssToken) (one : A) → Item [] tokens (Ok (one, rest)) → AreListed Item tokens (one ∷ []) rest
first_listed Item tokens rest one is = record { one = one; middle = rest; is_one = is; leads = λ outcome reads. reads }

pub next_listed : {A : Type 0} (Item : List A → List CssToken → Read A → Type 0) (tokens middle inner rest : List CssToken) (items : List A) (one : A) → AreListed Item tokens items middle
    → begins is_comma middle ≡ true → inner ≡ behind_first middle → Item items inner (Ok (one, rest)) → AreListed Item tokens (items ++ (one ∷ [])) rest
next_listed Item tokens middle inner rest items one so comma inner_is is = record {
  one = so.one;
  middle = so.middle;
  is_one = so.is_one;
  leads = λ outcome reads. so.leads outcome (more items middle one rest outcome (rw comma refl) (subst (λ t. Item items t (Ok (one, rest))) inner_is is) reads);
}

pub list_broken : {A : Type 0} (Item : List A → List CssToken → Read A → Type 0) (tokens middle inner : List CssToken) (items : List A) → AreListed Item tokens items middle
    → begins is_comma middle ≡ true → inner ≡ behind_first middle → (fault : SheetFault) → Item items inner (Err fault) → Listed Item tokens (Err fault)
list_broken Item tokens middle inner items so comma inner_is fault is =
    later so.one so.middle fault so.is_one (so.leads (Err fault) (breaks items middle fault (rw comma refl) (subst (λ t. Item items t (Err fault)) inner_is is)))

pub list_ended : {A : Type 0} (Item : List A → List CssToken → Read A → Type 0) (tokens rest : List CssToken) (items : List A) → AreListed Item tokens items rest → begins is_comma rest ≡ false
    → Listed Item tokens (Ok (items, rest))
list_ended Item tokens rest items so other = whole so.one so.middle items rest so.is_one (so.leads (Ok (items, rest)) (stopped items rest (rw other refl)))

-- what follows a comma is shorter than what it stands in
pub comma_leaves : (middle inner rest : List CssToken) → begins is_comma middle ≡ true → inner ≡ behind_first middle → length rest ≤ length inner → length rest < length middle
comma_leaves [] inner rest comma inner_is less = absurd (cc)
comma_leaves (token ∷ middle) inner rest comma inner_is less = let l : length rest ≤ length middle = subst (λ t. length rest ≤ length t) inner_is less in omega arith
