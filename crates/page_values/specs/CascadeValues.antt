-- Selectors, weights, names and lists of animation values, at small examples: the answers are those of CSS Selectors, CSS Cascading
-- and Inheritance, and CSS Animations Level 1.
use Rattle.std.specs.Prelude.{ℕ, pos, Bool, true, false, Option, Some, None, ◌≡◌, ◌==◌, List, [], ◌∷◌, if◌then◌else◌, codes}
use Rattle.std.specs.Str.{bytes_eq}
use Rattle.page_model.specs.declared.animation.Anim.{Anim}
use Rattle.page_model.specs.declared.animation.Count.TheVariants.{Times}
use Rattle.page_model.specs.declared.animation.Direction.TheVariants.{Normal}
use Rattle.page_model.specs.declared.animation.Fill.TheVariants.{Absent}
use Rattle.page_model.specs.declared.easing.Easing.TheVariants.{Linear, Cubic}
use Rattle.page_model.specs.declared.element.Tag.{Tag}
use Rattle.page_model.specs.declared.element.Tag.TheVariants.{Div, Span}
use Rattle.page_model.specs.declared.element.Element.{Element}
use Rattle.page_model.specs.declared.keyframe.Keyframe.{Keyframe}
use Rattle.page_model.specs.declared.keyframe.KeyframeSet.{KeyframeSet}
use Rattle.page_model.specs.declared.property.Prop.TheVariants as prop
use Rattle.page_model.specs.declared.property.Value.TheVariants as value
use Rattle.page_model.specs.declared.rule.Compound.{Compound}
use Rattle.page_model.specs.declared.rule.Decl.{Decl}
use Rattle.page_model.specs.declared.rule.Longhand.TheVariants.{Colour, Opacity, Names, Durations}
use Rattle.page_model.specs.declared.rule.Rule.{Rule}
use Rattle.page_model.specs.Cascade.{Candidate, Weight, Winners, matches, is_beaten_by, by_selector, by_attribute, candidates_of, of_property, IsWinning, set_meant, animations_won}
use Rattle.page_values.specs.Colours.{opaque_grey}

-- a compound selector: a tag or none, ids and classes
abbrev pub compound : Option (List ℕ) → List (List ℕ) → List (List ℕ) → Compound
compound tag ids classes = record { tag = tag; ids = ids; classes = classes }

-- an element without a style attribute
abbrev pub element : Tag → Option (List ℕ) → List (List ℕ) → Element
element tag id classes = record { tag = tag; id = id; classes = classes; style = record { from = 0; to = 0 } }

-- <span id="i" class="a b c">
abbrev pub the_span : Element
the_span = element Span (Some (codes "i")) (codes "a" ∷ (codes "b" ∷ (codes "c" ∷ [])))

-- tags without regard to case, ids and classes exactly, all of them
pub record MatchValues : Type 0 where
  pub anything : matches (compound None [] []) the_span ≡ true
  pub tag : matches (compound (Some (codes "SpAn")) [] []) the_span ≡ true
  pub other_tag : matches (compound (Some (codes "div")) [] []) the_span ≡ false
  pub id : matches (compound None (codes "i" ∷ []) []) the_span ≡ true
  pub other_case : matches (compound None (codes "I" ∷ []) []) the_span ≡ false
  pub no_id : matches (compound None (codes "i" ∷ []) []) (element Div None []) ≡ false
  pub two_classes : matches (compound None [] (codes "c" ∷ (codes "a" ∷ []))) the_span ≡ true
  pub one_of_two : matches (compound None [] (codes "a" ∷ (codes "d" ∷ []))) the_span ≡ false
  pub all_three : matches (compound (Some (codes "span")) (codes "i" ∷ []) (codes "b" ∷ [])) the_span ≡ true

-- a weight: important, inline, ids, classes, types, place
abbrev weight : ℕ → ℕ → ℕ → ℕ → ℕ → ℕ → Weight
weight important inline ids classes types place =
    record { important = important; inline = inline; ids = ids; classes = classes; types = types; place = place }

-- which of two wins: the first number that differs decides
pub record WeightValues : Type 0 where
  pub later : is_beaten_by (weight 0 0 0 1 0 10) (weight 0 0 0 1 0 20) ≡ true
  pub earlier : is_beaten_by (weight 0 0 0 1 0 20) (weight 0 0 0 1 0 10) ≡ false
  pub class_over_tag : is_beaten_by (weight 0 0 0 0 1 20) (weight 0 0 0 1 0 10) ≡ true
  pub id_over_eleven_classes : is_beaten_by (weight 0 0 0 11 0 20) (weight 0 0 1 0 0 10) ≡ true
  pub attribute_over_id : is_beaten_by (weight 0 0 1 0 0 20) (weight 0 1 0 0 0 10) ≡ true
  pub important_over_attribute : is_beaten_by (weight 0 1 0 0 0 20) (weight 1 0 0 0 1 10) ≡ true
  pub important_attribute : is_beaten_by (weight 1 0 2 0 0 20) (weight 1 1 0 0 0 10) ≡ true
  pub not_by_itself : is_beaten_by (weight 0 0 0 1 0 10) (weight 0 0 0 1 0 10) ≡ false

-- declarations of a colour, and of another property
abbrev colour : ℕ → Bool → ℕ → Decl
colour level important place = record { longhand = Colour (opaque_grey level); important = important; place = place }

-- span { background-color: 1 !important } .a, #i { background-color: 2 } div { background-color: 3 !important }
abbrev pub the_rules : List Rule
the_rules =
    record { selectors = compound (Some (codes "span")) [] [] ∷ []; decls = colour 1 true 40 ∷ [] }
    ∷ (record {
      selectors = compound None [] (codes "a" ∷ []) ∷ (compound None (codes "i" ∷ []) [] ∷ []);
      decls = colour 2 false 80 ∷ [];
    }
    ∷ (record { selectors = compound (Some (codes "div")) [] [] ∷ []; decls = colour 3 true 120 ∷ [] } ∷ []))

-- style="background-color: 4; opacity: 0.5"
abbrev pub the_attribute : List Decl
the_attribute =
    colour 4 false 200 ∷ (record { longhand = Opacity 500; important = false; place = 230 } ∷ [])

-- the colours that match: one by the tag, one by the class and by the id, one by the attribute; the important one wins
abbrev pub the_colours : List Candidate
the_colours = of_property 5 (candidates_of the_rules the_span the_attribute)

abbrev pub the_winner : Candidate
the_winner = by_selector (colour 1 true 40) (compound (Some (codes "span")) [] [])

-- without it the attribute wins
abbrev pub the_others : List Candidate
the_others =
    by_selector (colour 2 false 80) (compound None [] (codes "a" ∷ []))
    ∷ (by_selector (colour 2 false 80) (compound None (codes "i" ∷ []) []) ∷ (by_attribute (colour 4 false 200) ∷ []))

pub record WinnerValues : Type 0 where
  pub colours : the_colours ≡ the_winner ∷ the_others
  pub winner : IsWinning the_colours (Some the_winner)
  pub second : IsWinning the_others (Some (by_attribute (colour 4 false 200)))
  pub no_other : IsWinning the_colours (Some (by_attribute (colour 4 false 200))) → ⊥
  pub nothing : IsWinning (of_property 8 (candidates_of the_rules the_span the_attribute)) None

-- three sets: f and h name a property, g has only an easing
abbrev set_with : List Keyframe → KeyframeSet
set_with frames = record { frames = frames }

abbrev pub three_sets : List KeyframeSet
three_sets =
    set_with (record { offset = 0; easing = None; values = record { prop = prop.Opacity; value = value.Opacity 0 } ∷ [] } ∷ [])
    ∷ (set_with (record { offset = 5000; easing = Some Linear; values = [] } ∷ [])
    ∷ (set_with (record { offset = 10000; easing = None; values = record { prop = prop.Opacity; value = value.Opacity 0 } ∷ [] } ∷ []) ∷ []))

abbrev pub number_named : List ℕ → Option ℕ
number_named name =
    if bytes_eq name (codes "f") then Some 0
    else (if bytes_eq name (codes "g") then Some 1 else (if bytes_eq name (codes "h") then Some 2 else None))

-- the sets that name a property are numbered among themselves
pub record NameValues : Type 0 where
  pub first : set_meant number_named three_sets (Some (codes "f")) ≡ Some 0
  pub without_property : set_meant number_named three_sets (Some (codes "g")) ≡ None
  pub behind_it : set_meant number_named three_sets (Some (codes "h")) ≡ Some 1
  pub unknown : set_meant number_named three_sets (Some (codes "F")) ≡ None
  pub none : set_meant number_named three_sets None ≡ None

-- animation-name: h, none, g, f, h; animation-duration: 100ms, 200ms, 300ms
abbrev pub five_names : Winners
five_names property =
    if property == 11
    then Some (by_attribute (record {
      longhand = Names (Some (codes "h") ∷ (None ∷ (Some (codes "g") ∷ (Some (codes "f") ∷ (Some (codes "h") ∷ [])))));
      important = false;
      place = 0;
    }))
    else (if property == 12
    then Some (by_attribute (record { longhand = Durations (100 ∷ (200 ∷ (300 ∷ []))); important = false; place = 9 })) else None)

-- an animation with nothing but a set and a duration: all else is initial
abbrev pub plain : ℕ → ℕ → Anim
plain set duration = record {
  set = set;
  duration = duration;
  delay = pos 0;
  count = Times 1000;
  direction = Normal;
  fill = Absent;
  easing = Cubic 250 (pos 100) 250 (pos 1000);
  paused = false;
}

-- durations are repeated over all five names, and only then those without a set are left out
pub record AnimationValues : Type 0 where
  pub three_left : animations_won number_named three_sets five_names ≡ plain 1 100 ∷ (plain 0 100 ∷ (plain 1 200 ∷ []))
  pub no_names : animations_won number_named three_sets (λ property. None) ≡ []
