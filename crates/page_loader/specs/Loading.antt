-- What the bytes of a file come to: a scene, or the first fault. Page, sheet, style attributes in the order of the elements, and scene
-- are judged one after the other, each only where those before it have no fault.
use Rattle.std.specs.Prelude.{ℕ, ◌≡◌, ◌<◌, ◌⊎◌, List, length, slice_get, Some, Result, Ok, Err}
use Rattle.page_model.specs.declared.element.Element.{Element}
use Rattle.page_model.specs.declared.element.PageText.{PageText}
use Rattle.page_model.specs.declared.rule.Decl.{Decl}
use Rattle.page_model.specs.declared.scene.Scene.{Scene}
use Rattle.page_model.specs.Cascade.{IsScene, Sources}
use Rattle.page_reader.specs.PageText.{IsRead, SpellsMany, SpellsNone}
use Rattle.page_reader.specs.declared.fault.PageFault.{PageFault}
use Rattle.page_reader.specs.declared.fault.PageFault.TheVariants as page
use Rattle.css_declarations.specs.InlineText.{IsInlineFault, SpellsInline}
use Rattle.css_declarations.specs.declared.fault.SheetFault.{SheetFault}
use Rattle.css_declarations.specs.declared.fault.SheetFault.TheVariants as sheet
use Rattle.css_reader.specs.SheetState.{SheetState}
use Rattle.css_reader.specs.SheetText.{IsSheetFault, SpellsSheet}
use Rattle.cascade.specs.Refusals.{IsTold}
use Rattle.cascade.specs.Sources.{sources_of}
use Rattle.cascade.specs.declared.scene_fault.SceneFault.{SceneFault}
use Rattle.cascade.specs.declared.scene_fault.SceneFault.TheVariants as scene
use Rattle.page_loader.specs.declared.load_fault.LoadFault.{LoadFault}
use Rattle.page_loader.specs.declared.load_fault.LoadFault.TheVariants.{Page, Sheet, Scene as NoScene, NoMemory}

-- the bytes spell a page with a sheet
pub record SpellStyle (text : List ℕ) (page : PageText) (sheet : SheetState) : Type 0 where
  pub is_page : IsRead text page
  pub is_sheet : SpellsSheet text page.sheet sheet

-- the style attribute of each element spells its declarations; one that is missing is an empty text
pub record AreInline (text : List ℕ) (elements : List Element) (inline : List (List Decl)) : Type 0 where
  pub one_each : length inline ≡ length elements
  pub spelled :
      (number : ℕ) (element : Element) (decls : List Decl) → slice_get elements number ≡ Some element → slice_get inline number ≡ Some decls
      → SpellsInline text element.style decls

-- the bytes spell what a scene is made of
pub record SpellSources (text : List ℕ) (sources : Sources) : Type 0 where
  pub page : PageText
  pub sheet : SheetState
  pub inline : List (List Decl)
  pub is_style : SpellStyle text page sheet
  pub are_inline : AreInline text page.elements inline
  pub sources_are : sources ≡ sources_of sheet page.elements inline

-- the bytes spell what this scene is made of
pub record SpellScene (text : List ℕ) (scene : Scene) : Type 0 where
  pub sources : Sources
  pub are_sources : SpellSources text sources
  pub is_scene : IsScene sources scene

-- the page has this fault
abbrev pub IsPageFault : List ℕ → PageFault → Type 0
IsPageFault text (page.BadText place) = SpellsNone text place
IsPageFault text page.TooMany = SpellsMany text
IsPageFault text page.NoMemory = ⊥

-- the style text has this fault, and the page none
pub record HasSheetFault (text : List ℕ) (fault : SheetFault) : Type 0 where
  pub page : PageText
  pub is_page : IsRead text page
  pub is_fault : IsSheetFault text page.sheet fault

-- a style attribute has this fault, and none before it has one
pub record IsFirstInline (text : List ℕ) (elements : List Element) (fault : SheetFault) : Type 0 where
  pub number : ℕ
  pub element : Element
  pub is_there : slice_get elements number ≡ Some element
  pub is_fault : IsInlineFault text element.style fault
  pub none_before :
      (before : ℕ) (other : Element) → before < number → slice_get elements before ≡ Some other
      → (decls : List Decl) × SpellsInline text other.style decls

-- the first style attribute with a fault has this one, and page and sheet none
pub record HasInlineFault (text : List ℕ) (fault : SheetFault) : Type 0 where
  pub page : PageText
  pub sheet : SheetState
  pub is_style : SpellStyle text page sheet
  pub is_first : IsFirstInline text page.elements fault

abbrev pub HasStyleFault : List ℕ → SheetFault → Type 0
HasStyleFault text fault = HasSheetFault text fault ⊎ HasInlineFault text fault

-- the first fault of style text; want of memory is none
abbrev pub IsStyleFault : List ℕ → SheetFault → Type 0
IsStyleFault text (sheet.BadSheet place) = HasStyleFault text (sheet.BadSheet place)
IsStyleFault text (sheet.UnknownProperty place) = HasStyleFault text (sheet.UnknownProperty place)
IsStyleFault text (sheet.BadValue place) = HasStyleFault text (sheet.BadValue place)
IsStyleFault text (sheet.BadKeyframes place) = HasStyleFault text (sheet.BadKeyframes place)
IsStyleFault text (sheet.OverLimit place) = HasStyleFault text (sheet.OverLimit place)
IsStyleFault text sheet.NoMemory = ⊥

-- what is spelled has no scene, by this first fault of an element
pub record HasNoScene (text : List ℕ) (fault : SceneFault) : Type 0 where
  pub sources : Sources
  pub are_sources : SpellSources text sources
  pub is_fault : IsTold sources fault

abbrev pub IsSceneFault : List ℕ → SceneFault → Type 0
IsSceneFault text (scene.NotPlaced number) = HasNoScene text (scene.NotPlaced number)
IsSceneFault text scene.BodyProperty = HasNoScene text scene.BodyProperty
IsSceneFault text (scene.TooManyAnimations number) = HasNoScene text (scene.TooManyAnimations number)
IsSceneFault text scene.NoMemory = ⊥

-- the first fault of a file
abbrev pub IsFirstFault : List ℕ → LoadFault → Type 0
IsFirstFault text (Page fault) = IsPageFault text fault
IsFirstFault text (Sheet fault) = IsStyleFault text fault
IsFirstFault text (NoScene fault) = IsSceneFault text fault
IsFirstFault text NoMemory = ⊥

-- what there is to be loaded: the scene, or the first fault
abbrev pub IsLoad : List ℕ → Result Scene LoadFault → Type 0
IsLoad text (Ok scene) = SpellScene text scene
IsLoad text (Err fault) = IsFirstFault text fault

-- what a loader may answer: that, or that memory was refused
abbrev pub IsRefused : List ℕ → LoadFault → Type 0
IsRefused text fault = (fault ≡ NoMemory) ⊎ IsFirstFault text fault
