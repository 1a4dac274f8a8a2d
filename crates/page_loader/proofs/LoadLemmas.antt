-- The fault of a part is the first of the file.
use Rattle.std.proofs.Common.{◌≡◌, ℕ, ◌⊎◌, inl, inr, List, refl}
use Rattle.page_model.specs.declared.element.PageText.{PageText}
use Rattle.page_model.specs.declared.rule.Decl.{Decl}
use Rattle.page_model.specs.declared.scene.Scene.{Scene}
use Rattle.page_model.specs.Cascade.{IsScene}
use Rattle.page_reader.specs.PageText.{IsPageFault, IsRead}
use Rattle.page_reader.specs.declared.fault.PageFault.{PageFault}
use Rattle.page_reader.specs.declared.fault.PageFault.TheVariants as page
use Rattle.css_declarations.specs.DeclarationFaults.{IsTold}
use Rattle.css_declarations.specs.declared.fault.SheetFault.{SheetFault}
use Rattle.css_declarations.specs.declared.fault.SheetFault.TheVariants as sheet
use Rattle.css_reader.specs.SheetState.{SheetState}
use Rattle.css_reader.specs.SheetText.{IsSheetFault}
use Rattle.cascade.specs.Refusals.{IsRefusal}
use Rattle.cascade.specs.Sources.{sources_of}
use Rattle.cascade.specs.declared.scene_fault.SceneFault.{SceneFault}
use Rattle.cascade.specs.declared.scene_fault.SceneFault.TheVariants as scene
use Rattle.page_loader.specs.Faults.{of_page, of_scene, of_sheet}
use Rattle.page_loader.specs.Loading.{AreInline, HasStyleFault, IsFirstInline, IsRefused, SpellScene, SpellSources, SpellStyle}

pub page_refused : (text : List ℕ) (fault : PageFault) → IsPageFault text fault → IsRefused text (of_page fault)
page_refused text page.NoMemory is = inl refl
page_refused text (page.BadText place) is = inr is
page_refused text page.TooMany is = inr is

style_refused : (text : List ℕ) (fault : SheetFault) → (fault ≡ sheet.NoMemory) ⊎ HasStyleFault text fault → IsRefused text (of_sheet fault)
style_refused text sheet.NoMemory is = inl refl
style_refused text (sheet.BadSheet place) (inl is) = absurd (cc)
style_refused text (sheet.UnknownProperty place) (inl is) = absurd (cc)
style_refused text (sheet.BadValue place) (inl is) = absurd (cc)
style_refused text (sheet.BadKeyframes place) (inl is) = absurd (cc)
style_refused text (sheet.OverLimit place) (inl is) = absurd (cc)
style_refused text (sheet.BadSheet place) (inr is) = inr is
style_refused text (sheet.UnknownProperty place) (inr is) = inr is
style_refused text (sheet.BadValue place) (inr is) = inr is
style_refused text (sheet.BadKeyframes place) (inr is) = inr is
style_refused text (sheet.OverLimit place) (inr is) = inr is

-- the fault of the style text
sheet_fault : (text : List ℕ) (page : PageText) (fault : SheetFault) → IsRead text page → IsTold (IsSheetFault text page.sheet) fault
    → (fault ≡ sheet.NoMemory) ⊎ HasStyleFault text fault
sheet_fault text page sheet.NoMemory is told = inl refl
sheet_fault text page (sheet.BadSheet place) is told = inr (inl (record { page = page; is_page = is; is_fault = told }))
sheet_fault text page (sheet.UnknownProperty place) is told = inr (inl (record { page = page; is_page = is; is_fault = told }))
sheet_fault text page (sheet.BadValue place) is told = inr (inl (record { page = page; is_page = is; is_fault = told }))
sheet_fault text page (sheet.BadKeyframes place) is told = inr (inl (record { page = page; is_page = is; is_fault = told }))
sheet_fault text page (sheet.OverLimit place) is told = inr (inl (record { page = page; is_page = is; is_fault = told }))

pub sheet_refused : (text : List ℕ) (page : PageText) (fault : SheetFault) → IsRead text page → IsTold (IsSheetFault text page.sheet) fault → IsRefused text (of_sheet fault)
sheet_refused text page fault is told = style_refused text fault (sheet_fault text page fault is told)

-- the fault of a style attribute
pub inline_refused : (text : List ℕ) (page : PageText) (state : SheetState) (fault : SheetFault) → SpellStyle text page state
    → (fault ≡ sheet.NoMemory) ⊎ IsFirstInline text page.elements fault → IsRefused text (of_sheet fault)
inline_refused text page state fault is (inl want) = style_refused text fault (inl want)
inline_refused text page state fault is (inr first) = style_refused text fault (inr (inr (record { page = page; sheet = state; is_style = is; is_first = first })))

-- the sources of a scene
pub spelled : (text : List ℕ) (page : PageText) (state : SheetState) (inline : List (List Decl)) → SpellStyle text page state → AreInline text page.elements inline
    → SpellSources text (sources_of state page.elements inline)
spelled text page state inline is are = record { page = page; sheet = state; inline = inline; is_style = is; are_inline = are; sources_are = refl }

pub scene_spelled : (text : List ℕ) (page : PageText) (state : SheetState) (inline : List (List Decl)) (scene : Scene) → SpellStyle text page state
    → AreInline text page.elements inline → IsScene (sources_of state page.elements inline) scene → SpellScene text scene
scene_spelled text page state inline scene is are made =
    record { sources = sources_of state page.elements inline; are_sources = spelled text page state inline is are; is_scene = made }

pub scene_refused : (text : List ℕ) (page : PageText) (state : SheetState) (inline : List (List Decl)) (fault : SceneFault) → SpellStyle text page state
    → AreInline text page.elements inline → IsRefusal (sources_of state page.elements inline) fault → IsRefused text (of_scene fault)
scene_refused text page state inline scene.NoMemory is are refused = inl refl
scene_refused text page state inline (scene.NotPlaced number) is are (inl want) = absurd (cc)
scene_refused text page state inline scene.BodyProperty is are (inl want) = absurd (cc)
scene_refused text page state inline (scene.TooManyAnimations number) is are (inl want) = absurd (cc)
scene_refused text page state inline (scene.NotPlaced number) is are (inr told) =
    inr (record { sources = sources_of state page.elements inline; are_sources = spelled text page state inline is are; is_fault = told })
scene_refused text page state inline scene.BodyProperty is are (inr told) =
    inr (record { sources = sources_of state page.elements inline; are_sources = spelled text page state inline is are; is_fault = told })
scene_refused text page state inline (scene.TooManyAnimations number) is are (inr told) =
    inr (record { sources = sources_of state page.elements inline; are_sources = spelled text page state inline is are; is_fault = told })
