-- Selectors that are read part by part.
use Rattle.std.proofs.Common.{◌≡◌, ℕ, ◌<◌, ◌≤◌, Bool, true, false, cond, List, [], ◌∷◌, ◌++◌, length, Option, Some, None, Ok, Err, refl, sym, ap, ◌∙◌, subst, arith}
use Rattle.std.specs.Prelude.{◌&&◌, ◌==◌}
use Rattle.page_model.specs.declared.rule.Compound.{Compound}
use Rattle.style_tokens.specs.declared.token.CssToken.{CssToken}
use Rattle.css_declarations.specs.declared.fault.SheetFault.{SheetFault}
use Rattle.css_declarations.specs.declared.fault.SheetFault.TheVariants.{BadSheet}
use Rattle.css_declarations.specs.TokenKinds.{begins, is_ident, token_text}
use Rattle.css_selectors.specs.Readings.{Read, Exactly, Many, IsPut, with_last, last as second, no_comma, behind_first, is_comma}
use Rattle.css_selectors.specs.Readings.Then.{later, whole}
use Rattle.css_selectors.specs.Readings.Many.{stopped, breaks, more}
use Rattle.css_selectors.specs.Readings.Seen.{unseen, seen}
use Rattle.css_selectors.specs.SelectorGrammar.{Part, Parts, Selector, Selectors, class_at, class, compound_behind, compound_of, ends_behind, ends_compound, id, id_name, is_dot, is_id, is_tag, last_end, no_part, part, part_at, tag, with_part}
use Rattle.css_selectors.proofs.ReadingLemmas.{IsAtMost, IsBehind, Keeps, Leads, behind_is_less, behind_is_rest, many_keeps, rest_is_less, seen_keeps}

-- what is left behind a part is shorter, whatever it is
abbrev IsShorter : List CssToken → Read Part → Type 0
IsShorter tokens (Ok read) = IsBehind tokens read.1
IsShorter tokens (Err fault) = Unit {0}

class_shorter : (text : List ℕ) (end : ℕ) (dot : CssToken) (tokens : List CssToken) → IsShorter (dot ∷ tokens) (class_at text end dot tokens)
unfolding class_at
class_shorter text end dot [] = tt
class_shorter text end dot (name ∷ rest) = test (is_ident name.kind && (dot.place.to == name.place.from)) where
  test : (b : Bool) → IsShorter (dot ∷ (name ∷ rest)) (cond b (Ok (part class (token_text text name) name.place.to, rest)) (Err (BadSheet name.place.from)))
  test true = record { token = dot; front = name ∷ []; split = refl }
  test false = tt

part_shorter : (text : List ℕ) (end : ℕ) (tokens : List CssToken) → IsShorter tokens (part_at text end tokens)
unfolding part_at
part_shorter text end [] = tt
part_shorter text end (token ∷ rest) = by_dot (is_dot token.kind) where
  by_tag : (b : Bool) → IsShorter (token ∷ rest) (cond b (Ok (part tag (token_text text token) token.place.to, rest)) (Err (BadSheet token.place.from)))
  by_tag true = record { token = token; front = []; split = refl }
  by_tag false = tt

  by_id : (b : Bool) → IsShorter (token ∷ rest) (cond b (Ok (part id (id_name text token) token.place.to, rest))
      (cond (is_tag text token) (Ok (part tag (token_text text token) token.place.to, rest)) (Err (BadSheet token.place.from))))
  by_id true = record { token = token; front = []; split = refl }
  by_id false = by_tag (is_tag text token)

  by_dot : (b : Bool) → IsShorter (token ∷ rest) (cond b (class_at text end token rest) (cond (is_id text token) (Ok (part id (id_name text token) token.place.to, rest))
      (cond (is_tag text token) (Ok (part tag (token_text text token) token.place.to, rest)) (Err (BadSheet token.place.from)))))
  by_dot true = class_shorter text end token rest
  by_dot false = by_id (is_id text token)

pub part_leaves : (text : List ℕ) (end : ℕ) (tokens rest : List CssToken) (one : Part) → Ok (one, rest) ≡ part_at text end tokens → length rest < length tokens
part_leaves text end tokens rest one is = behind_is_less tokens rest (subst (IsShorter tokens) (sym is) (part_shorter text end tokens))

-- a compound selector so far
pub record IsGrowing (text : List ℕ) (end : ℕ) (tokens : List CssToken) (compound : Compound) (at_end : Option ℕ) (rest : List CssToken) : Type 0 where
  pub parts : List Part
  pub compound_is : compound ≡ compound_of parts
  pub end_is : at_end ≡ last_end parts
  pub leads : Leads (Parts text end) [] tokens parts rest

pub nothing_yet : (text : List ℕ) (end : ℕ) (tokens : List CssToken) (compound : Compound) → compound ≡ no_part → IsGrowing text end tokens compound None tokens
nothing_yet text end tokens compound is = record { parts = []; compound_is = is; end_is = refl; leads = λ outcome reads. reads }

compound_more : (compound : Compound) (parts : List Part) (one : Part) → compound_behind compound (parts ++ (one ∷ [])) ≡ with_part (compound_behind compound parts) one
compound_more compound [] one = refl
compound_more compound (first ∷ parts) one = compound_more (with_part compound first) parts one

end_more : (parts : List Part) (one : Part) → last_end (parts ++ (one ∷ [])) ≡ Some one.to
end_more [] one = refl
end_more (first ∷ []) one = refl
end_more (first ∷ (second ∷ parts)) one = end_more (second ∷ parts) one

pub part_added : (text : List ℕ) (end : ℕ) (tokens middle rest : List CssToken) (compound bigger : Compound) (at_end : Option ℕ) (one : Part) → IsGrowing text end tokens compound at_end middle
    → ends_behind text at_end middle ≡ false → Ok (one, rest) ≡ part_at text end middle → bigger ≡ with_part compound one → IsGrowing text end tokens bigger (Some one.to) rest
part_added text end tokens middle rest compound bigger at_end one so on is bigger_is = record {
  parts = so.parts ++ (one ∷ []);
  compound_is = bigger_is ∙ ap (λ c. with_part c one) so.compound_is ∙ sym (compound_more no_part so.parts one);
  end_is = sym (end_more so.parts one);
  leads = λ outcome reads. so.leads outcome (more so.parts middle one rest outcome (subst (λ e. ends_behind text e middle ≡ false) so.end_is on) is reads);
}

pub selector_broken : (text : List ℕ) (end : ℕ) (tokens middle : List CssToken) (compound : Compound) (at_end : Option ℕ) (fault : SheetFault) → IsGrowing text end tokens compound at_end middle
    → ends_behind text at_end middle ≡ false → Err fault ≡ part_at text end middle → Selector text end tokens (Err fault)
selector_broken text end tokens middle compound at_end fault so on is =
    unseen fault (so.leads (Err fault) (breaks so.parts middle fault (subst (λ e. ends_behind text e middle ≡ false) so.end_is on) is))

pub selector_found : (text : List ℕ) (end : ℕ) (tokens rest : List CssToken) (compound : Compound) (at_end : Option ℕ) → IsGrowing text end tokens compound at_end rest
    → ends_behind text at_end rest ≡ true → Selector text end tokens (Ok (compound, rest))
selector_found text end tokens rest compound at_end so off =
    subst (λ c. Selector text end tokens (Ok (c, rest))) (sym so.compound_is)
    (seen so.parts rest (so.leads (Ok (so.parts, rest)) (stopped so.parts rest (subst (λ e. ends_behind text e rest ≡ true) so.end_is off))))

-- a selector leaves no more than there was
part_keeps : (text : List ℕ) (end : ℕ) → Keeps (Exactly (part_at text end))
part_keeps text end tokens read is = subst (IsAtMost tokens) (sym is) (part_at_most (part_at text end tokens) (part_shorter text end tokens)) where
  part_at_most : (found : Read Part) → IsShorter tokens found → IsAtMost tokens found
  part_at_most (Ok found) less = behind_is_rest tokens found.1 less
  part_at_most (Err fault) less = tt

pub selector_keeps : (text : List ℕ) (end : ℕ) → Keeps (Selector text end)
selector_keeps text end = seen_keeps compound_of (Parts text end []) (many_keeps (λ before. Exactly (part_at text end)) (ends_compound text) (λ before. part_keeps text end) [])

pub comma_leaves : (middle rest : List CssToken) → begins is_comma middle ≡ true → length rest ≤ length (behind_first middle) → length rest < length middle
comma_leaves [] rest comma less = absurd (cc)
comma_leaves (token ∷ middle) rest comma less = let l : length rest ≤ length middle = less in omega arith

-- selectors so far, with commas between
abbrev pub Further : List ℕ → ℕ → List Compound → List CssToken → Read (List Compound) → Type 0
Further text end = Many (λ before tokens. Selector text end (behind_first tokens)) no_comma

pub record AreListed (text : List ℕ) (end : ℕ) (tokens : List CssToken) (selectors : List Compound) (rest : List CssToken) : Type 0 where
  pub one : Compound
  pub middle : List CssToken
  pub is_one : Selector text end tokens (Ok (one, middle))
  pub leads : Leads (Further text end) (one ∷ []) middle selectors rest

pub first_listed : (text : List ℕ) (end : ℕ) (tokens rest : List CssToken) (old new : List Compound) → old ≡ [] → IsPut with_last (Selector text end tokens) old new rest
    → AreListed text end tokens new rest
first_listed text end tokens rest old new empty put = record {
  one = put.item;
  middle = rest;
  is_one = put.is;
  leads = λ outcome reads. subst (λ l. Further text end l rest outcome) (put.new_is ∙ ap (λ o. o ++ (put.item ∷ [])) empty) reads;
}

pub next_listed : (text : List ℕ) (end : ℕ) (tokens middle inner rest : List CssToken) (old new : List Compound) → AreListed text end tokens old middle → begins is_comma middle ≡ true
    → inner ≡ behind_first middle → IsPut with_last (Selector text end inner) old new rest → AreListed text end tokens new rest
next_listed text end tokens middle inner rest old new so comma inner_is put = record {
  one = so.one;
  middle = so.middle;
  is_one = so.is_one;
  leads = λ outcome reads. so.leads outcome (more old middle put.item rest outcome (rw comma refl)
      (subst (λ t. Selector text end t (Ok (put.item, rest))) inner_is put.is) (subst (λ l. Further text end l rest outcome) put.new_is reads));
}

pub list_broken : (text : List ℕ) (end : ℕ) (tokens middle inner : List CssToken) (old : List Compound) → AreListed text end tokens old middle → begins is_comma middle ≡ true
    → inner ≡ behind_first middle → (fault : SheetFault) → Selector text end inner (Err fault) → Selectors text end tokens (Err fault)
list_broken text end tokens middle inner old so comma inner_is fault is =
    later so.one so.middle fault so.is_one (so.leads (Err fault) (breaks old middle fault (rw comma refl) (subst (λ t. Selector text end t (Err fault)) inner_is is)))

pub listed_shorter : (text : List ℕ) (end : ℕ) (middle inner rest : List CssToken) (old new : List Compound) → begins is_comma middle ≡ true → inner ≡ behind_first middle
    → IsPut with_last (Selector text end inner) old new rest → length rest < length middle
listed_shorter text end middle inner rest old new comma inner_is put =
    let kept : length rest ≤ length inner = rest_is_less inner rest (selector_keeps text end inner (Ok (put.item, rest)) put.is) in
    comma_leaves middle rest comma (subst (λ t. length rest ≤ length t) inner_is kept)

pub list_ended : (text : List ℕ) (end : ℕ) (tokens rest : List CssToken) (selectors : List Compound) → AreListed text end tokens selectors rest → begins is_comma rest ≡ false
    → Selectors text end tokens (Ok (selectors, rest))
list_ended text end tokens rest selectors so other = whole so.one so.middle selectors rest so.is_one (so.leads (Ok (selectors, rest)) (stopped selectors rest (rw other refl)))
