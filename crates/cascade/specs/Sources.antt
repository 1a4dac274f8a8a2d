-- What a scene is made of, as it is handed in, and what each element gives.
use Rattle.std.specs.Prelude.{ℕ, ◌≡◌, ◌≤◌, ◌↔◌, List, length, filter, slice_get, Option, Some, None, IsSome}
use Rattle.page_model.specs.declared.element.Element.{Element}
use Rattle.page_model.specs.declared.element.Tag.{Tag}
use Rattle.page_model.specs.declared.element.Tag.TheVariants.{Body, Div, Span}
use Rattle.page_model.specs.declared.keyframe.KeyframeSet.{KeyframeSet}
use Rattle.page_model.specs.declared.rule.Decl.{Decl}
use Rattle.page_model.specs.declared.scene.Layer.{Layer}
use Rattle.page_model.specs.Cascade.{Fault, Sources, AreWinners, Winners, animations_won, fault_of, layer_of, names_property}
use Rattle.page_model.specs.ValidScene.{IsBody, IsLayer}
use Rattle.css_reader.specs.SheetState.{SheetState, set_named}

-- the page has 1 to 65 elements, of which the first and no other is the body
pub record IsReadyPage (elements : List Element) : Type 0 where
  pub some : 1 ≤ length elements
  pub few : length elements ≤ 65
  pub body : (number : ℕ) (element : Element) → slice_get elements number ≡ Some element → (element.tag ≡ Body ↔ number ≡ 0)

-- the sources of a scene
abbrev pub sources_of : SheetState → List Element → List (List Decl) → Sources
sources_of sheet elements inline =
    record { rules = sheet.rules; sets = sheet.sets; set_named = set_named sheet; elements = elements; inline = inline }

abbrev pub kept_of : SheetState → List KeyframeSet
kept_of sheet = filter names_property sheet.sets

-- an element with its style attribute has a fault, or none
abbrev pub IsFaultOf : SheetState → Element → List Decl → Option Fault → Type 0
IsFaultOf sheet element inline fault =
    (winners : Winners) → AreWinners sheet.rules element inline winners
    → fault ≡ fault_of element.tag (kept_of sheet) winners (animations_won (set_named sheet) sheet.sets winners)

-- a layer is the element's
abbrev pub IsLayerOf : SheetState → Element → List Decl → Layer → Type 0
IsLayerOf sheet element inline layer =
    (winners : Winners) → AreWinners sheet.rules element inline winners
    → layer ≡ layer_of winners (animations_won (set_named sheet) sheet.sets winners)

-- what a valid scene needs of a layer by its element's tag
abbrev pub FitsTag : Tag → List KeyframeSet → Layer → Type 0
FitsTag Body kept layer = IsBody kept layer
FitsTag Div kept layer = IsSome layer.colour
FitsTag Span kept layer = IsSome layer.colour

-- an element without a fault has this layer, which is valid
pub record IsGoodLayer (sheet : SheetState) (element : Element) (inline : List Decl) (layer : Layer) : Type 0 where
  pub no_fault : IsFaultOf sheet element inline None
  pub is_layer : IsLayerOf sheet element inline layer
  pub valid : IsLayer (length (kept_of sheet)) layer
  pub fits : FitsTag element.tag (kept_of sheet) layer

-- the layers of the first elements
pub record AreLayers (sheet : SheetState) (elements : List Element) (inline : List (List Decl)) (layers : List Layer) (count : ℕ) : Type 0 where
  pub one_each : length layers ≡ count
  pub good :
      (number : ℕ) (element : Element) (decls : List Decl) (layer : Layer)
      → slice_get elements number ≡ Some element → slice_get inline number ≡ Some decls → slice_get layers number ≡ Some layer
      → IsGoodLayer sheet element decls layer
