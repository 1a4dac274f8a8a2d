-- The settings of a block: of each property the last.
use Rattle.std.proofs.Common.{◌≡◌, ℕ, zero, suc, ◌⊎◌, Bool, true, false, cond, List, [], ◌∷◌, ◌++◌, Option, Some, None, refl, sym, ap, ◌∙◌, subst, inl, inr, Contains, arith}
use Rattle.std.specs.Prelude.{◌==◌, not, filter}
use Rattle.std.proofs.lemmas.Bool.Decides.{nat_tests}
use Rattle.std.proofs.lemmas.List.Elements.{Contains-append_cases, Contains-append_left, Contains-append_right}
use Rattle.page_model.specs.declared.property.Prop.{Prop}
use Rattle.page_model.specs.declared.property.Setting.{Setting}
use Rattle.page_model.specs.declared.rule.Decl.{Decl}
use Rattle.page_model.specs.Keyframes.{is_same, number_of}
use Rattle.css_parts.specs.KeyframeGrammar.{setting_in, settings_behind, with_any}
use Rattle.css_parts.specs.KeyframesOfBlocks.{IsLastSetting}
use Rattle.css_parts.proofs.ReadyFrames.{not_true}

-- what stands in a list
pub head_in : {A : Type 0} (x : A) (xs : List A) → Contains (x ∷ xs) x
head_in x xs = (zero, omega arith, refl)

pub tail_in : {A : Type 0} (x : A) (xs : List A) (y : A) → Contains xs y → Contains (x ∷ xs) y
tail_in x xs y (k, within, is) = (suc k, omega (arith, within), is)

pub in_tail : {A : Type 0} (x : A) (xs : List A) (y : A) → Contains (x ∷ xs) y → (x ≡ y) ⊎ Contains xs y
in_tail x xs y (zero, within, is) = inl is
in_tail x xs y (suc k, within, is) = inr (k, omega (arith, within), is)

pub none_in : {A : Type 0} (y : A) → Contains [] y → ⊥
none_in y (k, within, is) = omega (arith, within)

in_filter : {A : Type 0} (p : A → Bool) (xs : List A) (y : A) → Contains (filter p xs) y → Contains xs y × (p y ≡ true)
in_filter p [] y is = absurd (none_in y is)
in_filter {A} p (x ∷ xs) y is = test (p x) refl is (λ later. in_filter p xs y later) where
  test : (b : Bool) → p x ≡ b → Contains (cond b (x ∷ filter p xs) (filter p xs)) y
      → (Contains (filter p xs) y → Contains xs y × (p y ≡ true)) → Contains (x ∷ xs) y × (p y ≡ true)
  test false e inner rest = let found = rest inner in (tail_in x xs y found.0, found.1)
  test true e inner rest = elim (in_tail x (filter p xs) y inner) [
    | inl same ↦ (subst (Contains (x ∷ xs)) same (head_in x xs), subst (λ z. p z ≡ true) same e)
    | inr later ↦ let found = rest later in (tail_in x xs y found.0, found.1)
  ]

filter_has : {A : Type 0} (p : A → Bool) (xs : List A) (y : A) → Contains xs y → p y ≡ true → Contains (filter p xs) y
filter_has p [] y is passes = absurd (none_in y is)
filter_has {A} p (x ∷ xs) y is passes = test (p x) refl (in_tail x xs y is) (λ later. filter_has p xs y later passes) where
  test : (b : Bool) → p x ≡ b → (x ≡ y) ⊎ Contains xs y → (Contains xs y → Contains (filter p xs) y)
      → Contains (cond b (x ∷ filter p xs) (filter p xs)) y
  test true e (inl same) rest = subst (Contains (x ∷ filter p xs)) same (head_in x (filter p xs))
  test true e (inr later) rest = tail_in x (filter p xs) y (rest later)
  test false e (inl same) rest = absurd (let f = subst (λ z. p z ≡ false) same e in cc)
  test false e (inr later) rest = rest later

-- properties
equal_turned : (a b : ℕ) → (a == b) ≡ (b == a)
equal_turned a b = grind (arith, nat_tests)

same_turned : (p q : Prop) → is_same p q ≡ is_same q p
same_turned p q = equal_turned (number_of p) (number_of q)

false_not : (b : Bool) → b ≡ false → not b ≡ true
false_not true e = absurd (cc)
false_not false e = refl

-- none of some declarations sets the property of a setting
abbrev NoneLater : List Decl → Setting → Type 0
NoneLater decls setting = (later : Decl) (other : Setting) → Contains decls later → setting_in later.longhand ≡ Some other → is_same other.prop setting.prop ≡ false

none_more : (decl : Decl) (decls : List Decl) (setting : Setting) → ((other : Setting) → setting_in decl.longhand ≡ Some other → is_same other.prop setting.prop ≡ false) → NoneLater decls setting
    → NoneLater (decl ∷ decls) setting
none_more decl decls setting first others = λ later other at sets. elim (in_tail decl decls later at) [
  | inl same ↦ first other (subst (λ (d : Decl). setting_in d.longhand ≡ Some other) (sym same) sets)
  | inr behind ↦ others later other behind sets
]

-- a setting among those of a block was there and stays, or is its property's last
abbrev IsKept : List Setting → List Decl → Setting → Type 0
IsKept values decls setting = (Contains values setting × NoneLater decls setting) ⊎ IsLastSetting decls setting

last_more : (decl : Decl) (decls : List Decl) (setting : Setting) → IsLastSetting decls setting → IsLastSetting (decl ∷ decls) setting
last_more decl decls setting is = record {
  before = decl ∷ is.before;
  decl = is.decl;
  after = is.after;
  split = ap (λ r. decl ∷ r) is.split;
  sets = is.sets;
  last = is.last;
}

kept_more : (values : List Setting) (decl : Decl) (decls : List Decl) (setting : Setting) → (new : Option Setting) → setting_in decl.longhand ≡ new → Contains (with_any values new) setting
    → NoneLater decls setting → IsKept values (decl ∷ decls) setting
kept_more values decl decls setting None e is none = inl (is, none_more decl decls setting (λ other sets. absurd (cc)) none)
kept_more values decl decls setting (Some new) e is none =
    elim (Contains-append_cases (filter (λ (other : Setting). not (is_same other.prop new.prop)) values) (new ∷ []) setting is) [
      | inl old ↦
          let found = in_filter (λ (other : Setting). not (is_same other.prop new.prop)) values setting old in
          let apart : is_same new.prop setting.prop ≡ false = same_turned new.prop setting.prop ∙ not_true (is_same setting.prop new.prop) found.1 in
          inl (
            found.0,
            none_more decl decls setting
                (λ other sets. let same : new ≡ other = let both : Some new ≡ Some other = sym e ∙ sets in cc in subst (λ (s : Setting). is_same s.prop setting.prop ≡ false) same apart) none,
          )
      | inr at_end ↦ elim (in_tail new [] setting at_end) [
        | inl same ↦ inr (record { before = []; decl = decl; after = decls; split = refl; sets = e ∙ ap (λ (s : Setting). Some s) same; last = none })
        | inr nothing ↦ absurd (none_in setting nothing)
      ]
    ]

stands_as : (values : List Setting) (decls : List Decl) (setting : Setting) → Contains (settings_behind values decls) setting → IsKept values decls setting
stands_as values [] setting is = inl (is, λ later other at sets. absurd (none_in later at))
stands_as values (decl ∷ decls) setting is = elim (stands_as (with_any values (setting_in decl.longhand)) decls setting is) [
  | inl old ↦ kept_more values decl decls setting (setting_in decl.longhand) refl old.0 old.1
  | inr last ↦ inr (last_more decl decls setting last)
]

-- and the other way round
stays_beside : (values : List Setting) (new : Option Setting) (setting : Setting) → Contains values setting → ((other : Setting) → new ≡ Some other → is_same other.prop setting.prop ≡ false)
    → Contains (with_any values new) setting
stays_beside values None setting is apart = is
stays_beside values (Some new) setting is apart =
    Contains-append_left (filter (λ (other : Setting). not (is_same other.prop new.prop)) values) (new ∷ []) setting
    (filter_has (λ (other : Setting). not (is_same other.prop new.prop)) values setting is
    (false_not (is_same setting.prop new.prop) (same_turned setting.prop new.prop ∙ apart new refl)))

stays : (values : List Setting) (decls : List Decl) (setting : Setting) → Contains values setting → NoneLater decls setting → Contains (settings_behind values decls) setting
stays values [] setting is none = is
stays values (decl ∷ decls) setting is none =
    stays (with_any values (setting_in decl.longhand)) decls setting (stays_beside values (setting_in decl.longhand) setting is (λ other sets. none decl other (head_in decl decls) sets))
    (λ later other at sets. none later other (tail_in decl decls later at) sets)

behind_both : (values : List Setting) (before after : List Decl) → settings_behind values (before ++ after) ≡ settings_behind (settings_behind values before) after
behind_both values [] after = refl
behind_both values (decl ∷ before) after = behind_both (with_any values (setting_in decl.longhand)) before after

set_stands : (values : List Setting) (new : Option Setting) (setting : Setting) → new ≡ Some setting → Contains (with_any values new) setting
set_stands values None setting e = absurd (cc)
set_stands values (Some new) setting e =
    let same : new ≡ setting = cc in
    Contains-append_right (filter (λ (other : Setting). not (is_same other.prop new.prop)) values) (new ∷ []) setting (subst (Contains (new ∷ [])) same (head_in new []))

last_stands : (decls : List Decl) (setting : Setting) → IsLastSetting decls setting → Contains (settings_behind [] decls) setting
last_stands decls setting is =
    subst (λ (d : List Decl). Contains (settings_behind [] d) setting) (sym is.split)
    (subst (λ (v : List Setting). Contains v setting) (sym (behind_both [] is.before (is.decl ∷ is.after)))
    (stays (with_any (settings_behind [] is.before) (setting_in is.decl.longhand)) is.after setting
    (set_stands (settings_behind [] is.before) (setting_in is.decl.longhand) setting is.sets) is.last))

stands_last : (decls : List Decl) (setting : Setting) → Contains (settings_behind [] decls) setting → IsLastSetting decls setting
stands_last decls setting is = elim (stands_as [] decls setting is) [ inl old ↦ absurd (none_in setting old.0) | inr last ↦ last ]

pub settings_are_last : (decls : List Decl) (setting : Setting) → (Contains (settings_behind [] decls) setting → IsLastSetting decls setting) × (IsLastSetting decls setting → Contains (settings_behind [] decls) setting)
settings_are_last decls setting = (stands_last decls setting, last_stands decls setting)
