-- Where the declarations that match an element come from.
use Rattle.std.proofs.Common.{◌≡◌, ℕ, true, List, [], ◌∷◌, Option, Some, None, refl, sym, ap, ◌∙◌, subst, arith, inl, inr, ◌⊎◌, map, All, Contains, slice_get, suc, zero}
use Rattle.std.specs.Prelude.{filter, flat_map, IfSome, ◌==◌}
use Rattle.std.proofs.lemmas.Bool.{cases_lt, eqb-true}
use Rattle.std.proofs.lemmas.Option.{slice_get_within, get_or_from_slice_get, slice_get-get_or}
use Rattle.std.proofs.lemmas.List.Elements.{All-contains, All-contains_itself, All-filter, Contains-append_cases, filter_passes}
use Rattle.page_model.specs.declared.element.Element.{Element}
use Rattle.page_model.specs.declared.rule.Compound.{Compound}
use Rattle.page_model.specs.declared.rule.Decl.{Decl}
use Rattle.page_model.specs.declared.rule.Rule.{Rule}
use Rattle.page_model.specs.Cascade.{AreWinners, Candidate, Weight, IsWinning, Winners, by_attribute, by_selector, candidates_of, matches, number_of, of_property, of_rule}
use Rattle.css_values.specs.ValidValues.{IsLonghand}
use Rattle.css_reader.specs.ReadySheet.{AreReadyDecls, AreReadyRules}
use Rattle.cascade_winners.specs.WinningValues.{IsWinningValue}
use Rattle.cascade_winners.proofs.WinningLemmas.{one_winner}

-- an item of a list and its place
pub record IsItem {A : Type 0} (items : List A) (item : A) : Type 0 where
  pub place : ℕ
  pub is_there : slice_get items place ≡ Some item

item_of : {A : Type 0} (items : List A) (item : A) → Contains items item → IsItem items item
item_of items item held = record { place = held.0; is_there = slice_get-get_or items held.0 item held.1 ∙ ap Some held.2 }

-- what holds of all holds of an item
pub all_at : {A : Type 0} (P : A → Type 0) (items : List A) (item : A) → All P items → IsItem items item → P item
all_at P items item all there = subst P (get_or_from_slice_get items there.place item item there.is_there) (all there.place item (slice_get_within items there.place item there.is_there))

-- an item of what a function makes of each
pub record Comes {A B : Type 0} (f : A → List B) (items : List A) (made : B) : Type 0 where
  pub item : A
  pub from : IsItem items item
  pub is : Contains (f item) made

comes_from : {A B : Type 0} (f : A → List B) (items : List A) (made : B) → Contains (flat_map f items) made → Comes f items made
comes_from f [] made held = absurd (omega (arith, held.1))
comes_from f (item ∷ rest) made held =
    elim (Contains-append_cases (f item) (flat_map f rest) made held) [
      | inl first ↦ record { item = item; from = record { place = 0; is_there = refl }; is = first }
      | inr later ↦
          let found = comes_from f rest made later in
          record { item = found.item; from = record { place = suc found.from.place; is_there = found.from.is_there }; is = found.is }
    ]

-- a declaration, and what is made of it
pub record Made {A : Type 0} (f : A → Candidate) (items : List A) (c : Candidate) : Type 0 where
  pub item : A
  pub from : IsItem items item
  pub is : c ≡ f item

made_from : {A : Type 0} (f : A → Candidate) (items : List A) (c : Candidate) → Contains (map f items) c → Made f items c
made_from f [] c held = absurd (omega (arith, held.1))
made_from f (item ∷ rest) c (zero, within, is) = record { item = item; from = record { place = 0; is_there = refl }; is = sym is }
made_from f (item ∷ rest) c (suc place, within, is) =
    let found = made_from f rest c (place, omega (arith, within), is) in
    record { item = found.item; from = record { place = suc found.from.place; is_there = found.from.is_there }; is = found.is }

-- the rule and the selector of a declaration, or the style attribute that has it
pub record OfRule (rules : List Rule) (c : Candidate) : Type 0 where
  pub rule : Rule
  pub among : IsItem rules rule
  pub selector : Compound
  pub decl : Made (λ decl. by_selector decl selector) rule.decls c

pub of_a_rule : (rules : List Rule) (element : Element) (c : Candidate) → Contains (flat_map (of_rule element) rules) c → OfRule rules c
of_a_rule rules element c held =
    let rule = comes_from (of_rule element) rules c held in
    let selector = comes_from (λ (selector : Compound). map (λ (decl : Decl). by_selector decl selector) rule.item.decls) (filter (λ (selector : Compound). matches selector element) rule.item.selectors) c rule.is in
    record { rule = rule.item; among = rule.from; selector = selector.item; decl = made_from (λ decl. by_selector decl selector.item) rule.item.decls c selector.is }

pub origin : (rules : List Rule) (element : Element) (inline : List Decl) (c : Candidate) → Contains (candidates_of rules element inline) c → OfRule rules c ⊎ Made by_attribute inline c
origin rules element inline c held =
    elim (Contains-append_cases (flat_map (of_rule element) rules) (map by_attribute inline) c held) [
      | inl by ↦ inl (of_a_rule rules element c by)
      | inr own ↦ inr (made_from by_attribute inline c own)
    ]

-- of the items of a list at one place both are one
one_item : {A : Type 0} (items : List A) (one other : A) (first : IsItem items one) (second : IsItem items other) → first.place ≡ second.place → one ≡ other
one_item items one other first second same =
    cc (first.is_there, second.is_there, same)

-- of declarations of one property in one place both are one
one_decl : (decls : List Decl) → AreReadyDecls decls → (one other : Decl) (first : IsItem decls one) (second : IsItem decls other) → number_of one.longhand ≡ number_of other.longhand → one.place ≡ other.place → one ≡ other
one_decl decls ready one other first second number place =
    elim (cases_lt first.place second.place) [
      | inl before ↦ absurd (ready.apart first.place second.place one other before first.is_there second.is_there number place)
      | inr from ↦ elim (cases_lt second.place first.place) [
        | inl behind ↦ absurd (ready.apart second.place first.place other one behind second.is_there first.is_there (sym number) (sym place))
        | inr upto ↦ one_item decls one other first second (omega (arith, from, upto))
      ]
    ]

one_of_rules : (rules : List Rule) → AreReadyRules rules → (one other : Rule) (first : IsItem rules one) (second : IsItem rules other) (decl more : Decl) → IsItem one.decls decl → IsItem other.decls more → number_of decl.longhand ≡ number_of more.longhand → decl.place ≡ more.place → decl ≡ more
one_of_rules rules ready one other first second decl more here there number place =
    elim (cases_lt first.place second.place) [
      | inl before ↦ absurd (ready.apart first.place second.place one other here.place there.place decl more before first.is_there second.is_there here.is_there there.is_there number place)
      | inr from ↦ elim (cases_lt second.place first.place) [
        | inl behind ↦ absurd (ready.apart second.place first.place other one there.place here.place more decl behind second.is_there first.is_there there.is_there here.is_there (sym number) (sym place))
        | inr upto ↦
            let same = one_item rules one other first second (omega (arith, from, upto)) in
            one_decl other.decls (ready_at rules ready other second) decl more (subst (λ (rule : Rule). IsItem rule.decls decl) same here) there number place
      ]
    ]
  where
    ready_at : (rules : List Rule) → AreReadyRules rules → (rule : Rule) → IsItem rules rule → AreReadyDecls rule.decls
    ready_at rules ready rule item = all_at (λ (rule : Rule). AreReadyDecls rule.decls) rules rule ready.decls item

-- a declaration by its parts
same_candidate : (c d : Candidate) → c.weight ≡ d.weight → c.longhand ≡ d.longhand → c ≡ d
same_candidate c d weight longhand j = record { weight = weight j; longhand = longhand j }

both_of_rules : (rules : List Rule) → AreReadyRules rules → (c d : Candidate) → OfRule rules c → OfRule rules d → c.weight ≡ d.weight → number_of c.longhand ≡ number_of d.longhand → c ≡ d
both_of_rules rules ready c d one other weight number =
    let first = one.decl in
    let second = other.decl in
    let of_c = ap (λ (c : Candidate). c.longhand) first.is in
    let of_d = ap (λ (c : Candidate). c.longhand) second.is in
    let place = sym (ap (λ (c : Candidate). c.weight.place) first.is) ∙ ap (λ (w : Weight). w.place) weight ∙ ap (λ (c : Candidate). c.weight.place) second.is in
    let same = one_of_rules rules ready one.rule other.rule one.among other.among first.item second.item first.from second.from (sym (ap number_of of_c) ∙ number ∙ ap number_of of_d) place in
    same_candidate c d weight (of_c ∙ ap (λ (decl : Decl). decl.longhand) same ∙ sym of_d)

both_own : (inline : List Decl) → AreReadyDecls inline → (c d : Candidate) → Made by_attribute inline c → Made by_attribute inline d → c.weight ≡ d.weight → number_of c.longhand ≡ number_of d.longhand → c ≡ d
both_own inline ready c d first second weight number =
    let of_c = ap (λ (c : Candidate). c.longhand) first.is in
    let of_d = ap (λ (c : Candidate). c.longhand) second.is in
    let place = sym (ap (λ (c : Candidate). c.weight.place) first.is) ∙ ap (λ (w : Weight). w.place) weight ∙ ap (λ (c : Candidate). c.weight.place) second.is in
    let same = one_decl inline ready first.item second.item first.from second.from (sym (ap number_of of_c) ∙ number ∙ ap number_of of_d) place in
    same_candidate c d weight (of_c ∙ ap (λ (decl : Decl). decl.longhand) same ∙ sym of_d)

-- a rule's declaration isn't a style attribute's
apart_by_kind : (rules : List Rule) (inline : List Decl) (c d : Candidate) → OfRule rules c → Made by_attribute inline d → c.weight ≡ d.weight → ⊥
apart_by_kind rules inline c d one own weight =
    let nought = ap (λ (c : Candidate). c.weight.inline) one.decl.is in
    let first = ap (λ (c : Candidate). c.weight.inline) own.is in
    omega (arith, nought, first, ap (λ (w : Weight). w.inline) weight)

-- where places are apart, a weight and a property are of one declaration
pub one_candidate : (rules : List Rule) (element : Element) (inline : List Decl) → AreReadyRules rules → AreReadyDecls inline → (c d : Candidate) → Contains (candidates_of rules element inline) c → Contains (candidates_of rules element inline) d → c.weight ≡ d.weight → number_of c.longhand ≡ number_of d.longhand → c ≡ d
one_candidate rules element inline ready own c d first second weight number =
    elim (origin rules element inline c first) [
      | inl by ↦ elim (origin rules element inline d second) [
        | inl by_too ↦ both_of_rules rules ready c d by by_too weight number
        | inr own_d ↦ absurd (apart_by_kind rules inline c d by own_d weight)
      ]
      | inr own_c ↦ elim (origin rules element inline d second) [
        | inl by ↦ absurd (apart_by_kind rules inline d c by own_c (sym weight))
        | inr own_d ↦ both_own inline own c d own_c own_d weight number
      ]
    ]

-- a declaration of a property is one of all, and of the property
pub of_one_property : (property : ℕ) (candidates : List Candidate) (c : Candidate) → Contains (of_property property candidates) c → Contains candidates c × (number_of c.longhand ≡ property)
of_one_property property candidates c held =
    let test = λ (c : Candidate). number_of c.longhand == property in (
      All-contains (Contains candidates) (of_property property candidates) c (All-filter test (Contains candidates) candidates (All-contains_itself candidates)) held,
      eqb-true _ _ (All-contains (λ (c : Candidate). test c ≡ true) (of_property property candidates) c (filter_passes test candidates) held),
    )

-- the winners are the only ones
pub only_winners : (rules : List Rule) (element : Element) (inline : List Decl) → AreReadyRules rules → AreReadyDecls inline → (one other : Winners) → AreWinners rules element inline one → AreWinners rules element inline other → one ≡ other
only_winners rules element inline ready own one other first second j property =
    let all = candidates_of rules element inline in
    let same : one property ≡ other property = one_winner (of_property property all) (one property) (other property)
    (λ c d held held_too weight.
    let of_c = of_one_property property all c held in
    let of_d = of_one_property property all d held_too in
    one_candidate rules element inline ready own c d of_c.0 of_d.0 weight (of_c.1 ∙ sym of_d.1))
    (first property) (second property) in
    same j

-- each value that may win is in its limits
ready_value : (rules : List Rule) (element : Element) (inline : List Decl) → AreReadyRules rules → AreReadyDecls inline → (c : Candidate) → Contains (candidates_of rules element inline) c → IsLonghand c.longhand
ready_value rules element inline ready own c held =
    elim (origin rules element inline c held) [
      | inl by ↦
          let decls = all_at (λ (rule : Rule). AreReadyDecls rule.decls) rules by.rule ready.decls by.among in
          subst (λ (c : Candidate). IsLonghand c.longhand) (sym by.decl.is) (all_at (λ (decl : Decl). IsLonghand decl.longhand) by.rule.decls by.decl.item decls.values by.decl.from)
      | inr of_own ↦
          subst (λ (c : Candidate). IsLonghand c.longhand) (sym of_own.is) (all_at (λ (decl : Decl). IsLonghand decl.longhand) inline of_own.item own.values of_own.from)
    ]

-- a winner is of its property, with a value in its limits
pub winning_values : (rules : List Rule) (element : Element) (inline : List Decl) → AreReadyRules rules → AreReadyDecls inline → (winners : Winners) → AreWinners rules element inline winners → (property : ℕ) → IfSome (winners property) (IsWinningValue property)
winning_values rules element inline ready own winners are property = told (winners property) (are property)
  where
    told : (best : Option Candidate) → IsWinning (of_property property (candidates_of rules element inline)) best → IfSome best (IsWinningValue property)
    told None won = tt
    told (Some winner) won =
        let of_all = of_one_property property (candidates_of rules element inline) winner won.0 in
        record { number = of_all.1; value = ready_value rules element inline ready own winner of_all.0 }
