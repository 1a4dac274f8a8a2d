-- Why a page is refused: by its length first, then by its first fault. A page that is refused for nothing is loaded.
use Rattle.std.specs.Prelude.{ℕ, ◌<◌, ◌≤◌, ◌⊎◌, List, length}
use Rattle.page_model.specs.declared.scene.Scene.{Scene}
use Rattle.page_reader.specs.declared.fault.PageFault.TheVariants as text
use Rattle.css_declarations.specs.declared.fault.SheetFault.TheVariants as style
use Rattle.cascade.specs.declared.scene_fault.SceneFault.TheVariants as element
use Rattle.page_loader.specs.Loading.{IsFirstFault, SpellScene}
use Rattle.page_loader.specs.declared.load_fault.LoadFault.{LoadFault}
use Rattle.page_loader.specs.declared.load_fault.LoadFault.TheVariants.{Page, Sheet, Scene as NoScene, NoMemory as Unloaded}
use Rattle.flash_top.specs.declared.refusal.PageRefusal.{PageRefusal}
use Rattle.flash_top.specs.declared.refusal.PageRefusal.TheVariants.{TooLong, BadText, TooManyBoxes, BadSheet, UnknownProperty, BadValue, BadKeyframes, OverLimit, NotPlaced, BodyProperty, TooManyAnimations}
use Rattle.flash_top.specs.declared.outcome.Outcome.{Outcome}
use Rattle.flash_top.specs.declared.outcome.Outcome.TheVariants.{Refused, NoMemory}

-- a page has at most so many bytes
abbrev pub page_limit : ℕ
page_limit = 1048576

-- the bytes are few enough, and this is their first fault
pub record Breaks (bytes : List ℕ) (fault : LoadFault) : Type 0 where
  pub short : length bytes ≤ page_limit
  pub first : IsFirstFault bytes fault

-- why a page is refused
abbrev pub IsRefusal : List ℕ → PageRefusal → Type 0
IsRefusal bytes TooLong = page_limit < length bytes
IsRefusal bytes (BadText place) = Breaks bytes (Page (text.BadText place))
IsRefusal bytes TooManyBoxes = Breaks bytes (Page text.TooMany)
IsRefusal bytes (BadSheet place) = Breaks bytes (Sheet (style.BadSheet place))
IsRefusal bytes (UnknownProperty place) = Breaks bytes (Sheet (style.UnknownProperty place))
IsRefusal bytes (BadValue place) = Breaks bytes (Sheet (style.BadValue place))
IsRefusal bytes (BadKeyframes place) = Breaks bytes (Sheet (style.BadKeyframes place))
IsRefusal bytes (OverLimit place) = Breaks bytes (Sheet (style.OverLimit place))
IsRefusal bytes (NotPlaced number) = Breaks bytes (NoScene (element.NotPlaced number))
IsRefusal bytes BodyProperty = Breaks bytes (NoScene element.BodyProperty)
IsRefusal bytes (TooManyAnimations number) = Breaks bytes (NoScene (element.TooManyAnimations number))

-- the bytes are few enough and spell what this scene is made of
pub record IsLoadedAs (bytes : List ℕ) (scene : Scene) : Type 0 where
  pub short : length bytes ≤ page_limit
  pub spelled : SpellScene bytes scene

-- the bytes of each page come to a scene, or to a refusal
abbrev pub EveryPageIsLoadedOrRefused : Type 0
EveryPageIsLoadedOrRefused =
    (bytes : List ℕ) → ((scene : Scene) × IsLoadedAs bytes scene) ⊎ ((refusal : PageRefusal) × IsRefusal bytes refusal)

-- a fault as it is told
abbrev pub refused : LoadFault → Outcome
refused (Page (text.BadText place)) = Refused (BadText place)
refused (Page text.TooMany) = Refused TooManyBoxes
refused (Page text.NoMemory) = NoMemory
refused (Sheet (style.BadSheet place)) = Refused (BadSheet place)
refused (Sheet (style.UnknownProperty place)) = Refused (UnknownProperty place)
refused (Sheet (style.BadValue place)) = Refused (BadValue place)
refused (Sheet (style.BadKeyframes place)) = Refused (BadKeyframes place)
refused (Sheet (style.OverLimit place)) = Refused (OverLimit place)
refused (Sheet style.NoMemory) = NoMemory
refused (NoScene (element.NotPlaced number)) = Refused (NotPlaced number)
refused (NoScene element.BodyProperty) = Refused BodyProperty
refused (NoScene (element.TooManyAnimations number)) = Refused (TooManyAnimations number)
refused (NoScene element.NoMemory) = NoMemory
refused Unloaded = NoMemory
