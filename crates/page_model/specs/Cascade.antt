-- From rules to a scene: CSS Cascading and Inheritance (the cascade of author declarations), Selectors (compound selectors and
-- specificity) and CSS Animations Level 1 (lists of animation values), for the properties of this project's profile. Of all
-- declarations that match an element and set a longhand the winning one is the greatest by importance, then inline, then
-- specificity (ids, classes, types), then place in the file. Rules, inline declarations and keyframe sets are handed in, the sets
-- with a finite map from a name to the number of its set.
use Rattle.std.specs.Prelude.{ℕ, ℤ, pos, Bool, true, false, not, Option, Some, None, ◌≡◌, ◌%◌, ◌<◌, ◌==◌, ◌&&◌, ◌||◌, List, [], ◌∷◌, ◌++◌, length, take, filter, filter_map, flat_map, map, count_by, slice_get, option_map, option_and_then, unwrap_or, is_some, nat_lt, if◌then◌else◌, Contains, All, codes}
use Rattle.std.specs.List.{list_all, list_any, enumerate_from}
use Rattle.std.specs.Str.{bytes_eq, str_eq_ignore_ascii_case}
use Rattle.page_model.specs.declared.animation.Anim.{Anim}
use Rattle.page_model.specs.declared.animation.Count.{Count}
use Rattle.page_model.specs.declared.animation.Count.TheVariants.{Times}
use Rattle.page_model.specs.declared.animation.Direction.{Direction}
use Rattle.page_model.specs.declared.animation.Direction.TheVariants.{Normal}
use Rattle.page_model.specs.declared.animation.Fill.{Fill}
use Rattle.page_model.specs.declared.animation.Fill.TheVariants.{Absent}
use Rattle.page_model.specs.declared.colour.Rgba.{Rgba}
use Rattle.page_model.specs.declared.easing.Easing.{Easing}
use Rattle.page_model.specs.declared.easing.Easing.TheVariants.{Cubic}
use Rattle.page_model.specs.declared.element.Tag.{Tag}
use Rattle.page_model.specs.declared.element.Tag.TheVariants.{Body, Div, Span}
use Rattle.page_model.specs.declared.element.Element.{Element}
use Rattle.page_model.specs.declared.keyframe.KeyframeSet.{KeyframeSet}
use Rattle.page_model.specs.declared.keyframe.Keyframe.{Keyframe}
use Rattle.page_model.specs.declared.property.Prop.TheVariants as prop
use Rattle.page_model.specs.declared.property.Setting.{Setting}
use Rattle.page_model.specs.declared.rule.Compound.{Compound}
use Rattle.page_model.specs.declared.rule.Decl.{Decl}
use Rattle.page_model.specs.declared.rule.Longhand.{Longhand}
use Rattle.page_model.specs.declared.rule.Longhand.TheVariants.{Position, Left, Top, Width, Height, Colour, Opacity, Visibility, ZIndex, Margin, Padding, Names, Durations, Easings, Delays, Counts, Directions, Fills, Paused}
use Rattle.page_model.specs.declared.rule.Rule.{Rule}
use Rattle.page_model.specs.declared.scene.Held.{Held}
use Rattle.page_model.specs.declared.scene.Layer.{Layer}
use Rattle.page_model.specs.declared.scene.Scene.{Scene}
use Rattle.page_model.specs.Keyframes.{is_same}
use Rattle.page_model.specs.ValidScene.{IsPaintOrder}

-- a tag by its name
abbrev pub tag_name : Tag → List ℕ
tag_name Body = codes "body"
tag_name Div = codes "div"
tag_name Span = codes "span"

-- a name is among some names
abbrev pub is_among : List (List ℕ) → List ℕ → Bool
is_among names name = list_any (bytes_eq name) names

abbrev pub matches_tag : Option (List ℕ) → Tag → Bool
matches_tag None tag = true
matches_tag (Some name) tag = str_eq_ignore_ascii_case name (tag_name tag)

abbrev pub matches_ids : List (List ℕ) → Option (List ℕ) → Bool
matches_ids ids own = list_all (λ id. is_some own && bytes_eq id (unwrap_or own [])) ids

-- a compound selector matches an element: by tag without regard to case, by each id and each class exactly
abbrev pub matches : Compound → Element → Bool
matches selector element =
    matches_tag selector.tag element.tag
    && (matches_ids selector.ids element.id && list_all (is_among element.classes) selector.classes)

-- by what one declaration beats another: the first of these that differs
pub record Weight : Type 0 where
  pub important : ℕ
  pub inline : ℕ
  pub ids : ℕ
  pub classes : ℕ
  pub types : ℕ
  pub place : ℕ

-- the numbers in that order, of which the first that differs decides
abbrev pub is_below_by : List ℕ → List ℕ → Bool
is_below_by [] [] = false
is_below_by [] (b ∷ others) = true
is_below_by (a ∷ rest) [] = false
is_below_by (a ∷ rest) (b ∷ others) = if a == b then is_below_by rest others else nat_lt a b

abbrev pub ranks : Weight → List ℕ
ranks w = w.important ∷ (w.inline ∷ (w.ids ∷ (w.classes ∷ (w.types ∷ (w.place ∷ [])))))

abbrev pub is_beaten_by : Weight → Weight → Bool
is_beaten_by one other = is_below_by (ranks one) (ranks other)

-- a declaration that matches an element, with its weight
pub record Candidate : Type 0 where
  pub weight : Weight
  pub longhand : Longhand

abbrev pub bit : Bool → ℕ
bit b = if b then 1 else 0

-- the declaration of a rule, by one of its selectors
abbrev pub by_selector : Decl → Compound → Candidate
by_selector decl selector = record {
  weight = record {
    important = bit decl.important;
    inline = 0;
    ids = length selector.ids;
    classes = length selector.classes;
    types = bit (is_some selector.tag);
    place = decl.place;
  };
  longhand = decl.longhand;
}

-- the declaration of a style attribute
abbrev pub by_attribute : Decl → Candidate
by_attribute decl = record {
  weight = record { important = bit decl.important; inline = 1; ids = 0; classes = 0; types = 0; place = decl.place };
  longhand = decl.longhand;
}

-- the declarations of a rule that match, once for each selector that does
abbrev pub of_rule : Element → Rule → List Candidate
of_rule element rule =
    flat_map (λ (selector : Compound). map (λ (decl : Decl). by_selector decl selector) rule.decls)
    (filter (λ (selector : Compound). matches selector element) rule.selectors)

-- all declarations that match an element: those of the rules, and its own
abbrev pub candidates_of : List Rule → Element → List Decl → List Candidate
candidates_of rules element inline = flat_map (of_rule element) rules ++ map by_attribute inline

-- a number for each longhand property
abbrev pub number_of : Longhand → ℕ
number_of Position = 0
number_of (Left v) = 1
number_of (Top v) = 2
number_of (Width v) = 3
number_of (Height v) = 4
number_of (Colour c) = 5
number_of (Opacity v) = 6
number_of (Visibility v) = 7
number_of (ZIndex v) = 8
number_of Margin = 9
number_of Padding = 10
number_of (Names vs) = 11
number_of (Durations vs) = 12
number_of (Easings vs) = 13
number_of (Delays vs) = 14
number_of (Counts vs) = 15
number_of (Directions vs) = 16
number_of (Fills vs) = 17
number_of (Paused vs) = 18

-- the declarations of one property
abbrev pub of_property : ℕ → List Candidate → List Candidate
of_property property candidates = filter (λ (c : Candidate). number_of c.longhand == property) candidates

-- the winning one of some declarations: one of them that none of them beats, and none where there are none
abbrev pub IsWinning : List Candidate → Option Candidate → Type 0
IsWinning candidates None = candidates ≡ []
IsWinning candidates (Some winner) =
    Contains candidates winner × All (λ (c : Candidate). is_beaten_by winner.weight c.weight ≡ false) candidates

-- the winning declarations of an element, by the number of the property
abbrev pub Winners : Type 0
Winners = ℕ → Option Candidate

abbrev pub AreWinners : List Rule → Element → List Decl → Winners → Type 0
AreWinners rules element inline winners =
    (property : ℕ) → IsWinning (of_property property (candidates_of rules element inline)) (winners property)

abbrev pub has : Winners → ℕ → Bool
has winners property = is_some (winners property)

-- whether the winning declaration of a property is important
abbrev pub is_important : Winners → ℕ → Bool
is_important winners property =
    unwrap_or (option_map (λ (c : Candidate). c.weight.important == 1) (winners property)) false

-- the winning value of a property, as a longhand
abbrev pub value_of : Winners → ℕ → Option Longhand
value_of winners property = option_map (λ (c : Candidate). c.longhand) (winners property)

-- what a longhand says, each of its own property
abbrev pub length_in : Longhand → Option ℤ
length_in (Left v) = Some v
length_in (Top v) = Some v
length_in (Width v) = Some v
length_in (Height v) = Some v
length_in other = None

abbrev pub colour_in : Longhand → Option Rgba
colour_in (Colour c) = Some c
colour_in other = None

abbrev pub opacity_in : Longhand → Option ℕ
opacity_in (Opacity v) = Some v
opacity_in other = None

abbrev pub visibility_in : Longhand → Option Bool
visibility_in (Visibility v) = Some v
visibility_in other = None

abbrev pub z_in : Longhand → Option ℤ
z_in (ZIndex v) = Some v
z_in other = None

abbrev pub names_in : Longhand → Option (List (Option (List ℕ)))
names_in (Names vs) = Some vs
names_in other = None

abbrev pub durations_in : Longhand → Option (List ℕ)
durations_in (Durations vs) = Some vs
durations_in other = None

abbrev pub easings_in : Longhand → Option (List Easing)
easings_in (Easings vs) = Some vs
easings_in other = None

abbrev pub delays_in : Longhand → Option (List ℤ)
delays_in (Delays vs) = Some vs
delays_in other = None

abbrev pub counts_in : Longhand → Option (List Count)
counts_in (Counts vs) = Some vs
counts_in other = None

abbrev pub directions_in : Longhand → Option (List Direction)
directions_in (Directions vs) = Some vs
directions_in other = None

abbrev pub fills_in : Longhand → Option (List Fill)
fills_in (Fills vs) = Some vs
fills_in other = None

abbrev pub paused_in : Longhand → Option (List Bool)
paused_in (Paused vs) = Some vs
paused_in other = None

-- the winning value of a property, read by one of these, or the initial value
abbrev pub won : {V : Type 0} → Winners → ℕ → (Longhand → Option V) → V → V
won winners property read initial = unwrap_or (option_and_then read (value_of winners property)) initial

-- the easing `ease`
abbrev pub ease : Easing
ease = Cubic 250 (pos 100) 250 (pos 1000)

-- the item of a list for the animation at a place: lists are repeated, or cut, to as many items as there are names
abbrev pub item_for : {V : Type 0} → List V → V → ℕ → V
item_for items initial place = unwrap_or (slice_get items (place % length items)) initial

-- a keyframe set names a property
abbrev pub names_property : KeyframeSet → Bool
names_property set = list_any (λ (frame : Keyframe). nat_lt 0 (length frame.values)) set.frames

-- the number of a set of the sheet among those that name a property, which alone are left in the scene
abbrev pub kept_number : List KeyframeSet → ℕ → Option ℕ
kept_number sets number =
    option_and_then
    (λ (set : KeyframeSet). if names_property set then Some (count_by names_property (take number sets)) else None)
    (slice_get sets number)

-- the number in the scene of the set that a name means: none for `none`, a name without a set, and a set that names no property
abbrev pub set_meant : (List ℕ → Option ℕ) → List KeyframeSet → Option (List ℕ) → Option ℕ
set_meant set_named sets name = option_and_then (kept_number sets) (option_and_then set_named name)

-- the winning list of names
abbrev pub names_won : Winners → List (Option (List ℕ))
names_won winners = won winners 11 names_in (None ∷ [])

-- the animation at a place of the list of names
abbrev pub animation_at : Winners → ℕ → ℕ → Anim
animation_at winners place set = record {
  set = set;
  duration = item_for (won winners 12 durations_in (0 ∷ [])) 0 place;
  delay = item_for (won winners 14 delays_in (pos 0 ∷ [])) (pos 0) place;
  count = item_for (won winners 15 counts_in (Times 1000 ∷ [])) (Times 1000) place;
  direction = item_for (won winners 16 directions_in (Normal ∷ [])) Normal place;
  fill = item_for (won winners 17 fills_in (Absent ∷ [])) Absent place;
  easing = item_for (won winners 13 easings_in (ease ∷ [])) ease place;
  paused = item_for (won winners 18 paused_in (false ∷ [])) false place;
}

-- the animations of an element: one for each name that means a set, in the order of the names
abbrev pub animations_won : (List ℕ → Option ℕ) → List KeyframeSet → Winners → List Anim
animations_won set_named sets winners =
    filter_map (λ (item : ℕ × Option (List ℕ)). option_map (animation_at winners item.0) (set_meant set_named sets item.1))
    (enumerate_from 0 (names_won winners))

-- the properties that no animation may change
abbrev pub held_by : Winners → Held
held_by winners = record {
  background = is_important winners 5;
  opacity = is_important winners 6;
  visibility = is_important winners 7;
  left = is_important winners 1;
  top = is_important winners 2;
  width = is_important winners 3;
  height = is_important winners 4;
}

-- the layer of an element, with the animations that are left
abbrev pub layer_of : Winners → List Anim → Layer
layer_of winners anims = record {
  colour = option_and_then colour_in (value_of winners 5);
  opacity = won winners 6 opacity_in 1000;
  shown = won winners 7 visibility_in true;
  left = won winners 1 length_in (pos 0);
  top = won winners 2 length_in (pos 0);
  width = won winners 3 length_in (pos 0);
  height = won winners 4 length_in (pos 0);
  z = won winners 8 z_in (pos 0);
  important = held_by winners;
  anims = anims;
}

-- an element lacks a declaration that it needs: a box its place, size and colour, an animated body its colour
abbrev pub is_placed : Winners → Bool
is_placed winners =
    has winners 0 && (has winners 1 && (has winners 2 && (has winners 3 && (has winners 4 && has winners 5))))

abbrev pub lacks : Tag → Winners → List Anim → Bool
lacks Body winners anims = nat_lt 0 (length anims) && not (has winners 5)
lacks Div winners anims = not (is_placed winners)
lacks Span winners anims = not (is_placed winners)

-- the body has a property that it may not have, by a declaration or by a keyframe set that it uses
abbrev pub has_box_property : Winners → Bool
has_box_property winners = list_any (has winners) (0 ∷ (1 ∷ (2 ∷ (3 ∷ (4 ∷ (6 ∷ (7 ∷ (8 ∷ []))))))))

abbrev pub names_more : KeyframeSet → Bool
names_more set =
    list_any (λ (frame : Keyframe). list_any (λ (setting : Setting). not (is_same setting.prop prop.Background)) frame.values)
    set.frames

abbrev pub animates_more : List KeyframeSet → List Anim → Bool
animates_more kept anims =
    list_any (λ (anim : Anim). unwrap_or (option_map names_more (slice_get kept anim.set)) false) anims

abbrev pub breaks_body : Tag → List KeyframeSet → Winners → List Anim → Bool
breaks_body Body kept winners anims = has_box_property winners || animates_more kept anims
breaks_body Div kept winners anims = false
breaks_body Span kept winners anims = false

-- the winning list of names has more than eight items
abbrev pub has_too_many : Winners → Bool
has_too_many winners = nat_lt 8 (length (names_won winners))

-- why there is no scene, by one element
pub data Fault : Type 0 where
  not_placed : Fault
  body_property : Fault
  too_many_animations : Fault

-- the first fault of an element
abbrev pub fault_of : Tag → List KeyframeSet → Winners → List Anim → Option Fault
fault_of tag kept winners anims =
    if lacks tag winners anims then Some not_placed
    else (if breaks_body tag kept winners anims then Some body_property
    else (if has_too_many winners then Some too_many_animations else None))

-- what a scene is made of: the rules, the keyframe sets and which number a name means, the elements, and the declarations of the
-- style attribute of each
pub record Sources : Type 0 where
  pub rules : List Rule
  pub sets : List KeyframeSet
  pub set_named : List ℕ → Option ℕ
  pub elements : List Element
  pub inline : List (List Decl)

-- the sets that name a property, in the sheet's order
abbrev pub kept_sets : Sources → List KeyframeSet
kept_sets sources = filter names_property sources.sets

-- an element of the sources, with its winning declarations
pub record IsElement (sources : Sources) (number : ℕ) (element : Element) (winners : Winners) : Type 0 where
  pub is_there : slice_get sources.elements number ≡ Some element
  pub inline : List Decl
  pub inline_is : slice_get sources.inline number ≡ Some inline
  pub winners_are : AreWinners sources.rules element inline winners

abbrev pub animations_in : Sources → Winners → List Anim
animations_in sources winners = animations_won sources.set_named sources.sets winners

-- the fault of an element, or none
abbrev pub HasFault : Sources → ℕ → Option Fault → Type 0
HasFault sources number fault =
    (element : Element) (winners : Winners) → IsElement sources number element winners
    → fault ≡ fault_of element.tag (kept_sets sources) winners (animations_in sources winners)

-- the fault that is told: of the first element that has one
pub record IsFirstFault (sources : Sources) (number : ℕ) (fault : Fault) : Type 0 where
  pub element : number < length sources.elements
  pub is_fault : HasFault sources number (Some fault)
  pub none_before : (before : ℕ) → before < number → HasFault sources before None

-- the layer of an element is that of its winning declarations
abbrev pub HasLayer : Sources → ℕ → Layer → Type 0
HasLayer sources number layer =
    (element : Element) (winners : Winners) → IsElement sources number element winners
    → layer ≡ layer_of winners (animations_in sources winners)

-- the scene of the sources: no element has a fault, each has its layer, boxes are painted in order, and the sets are those that
-- name a property
pub record IsScene (sources : Sources) (scene : Scene) : Type 0 where
  pub no_fault : (number : ℕ) → number < length sources.elements → HasFault sources number None
  pub one_each : length scene.layers ≡ length sources.elements
  pub layers : (number : ℕ) (layer : Layer) → slice_get scene.layers number ≡ Some layer → HasLayer sources number layer
  pub order : IsPaintOrder scene.layers scene.order
  pub sets : scene.sets ≡ kept_sets sources
