-- A fault of the page is a refusal of it, and a page is refused for one cause.
use Rattle.std.proofs.Common.{◌≡◌, ℕ, ◌<◌, ◌≤◌, ◌⊎◌, inl, inr, List, length, Result, Ok, Err, refl, sym, ap, ◌∙◌, arith}
use Rattle.std.proofs.lemmas.Bool.{cases_lt}
use Rattle.page_model.specs.declared.scene.Scene.{Scene}
use Rattle.page_reader.specs.declared.fault.PageFault.TheVariants as text
use Rattle.css_declarations.specs.declared.fault.SheetFault.TheVariants as style
use Rattle.cascade.specs.declared.scene_fault.SceneFault.TheVariants as element
use Rattle.page_loader.specs.Loading.{IsFirstFault, IsLoad, IsRefused, SpellScene}
use Rattle.page_loader.specs.declared.load_fault.LoadFault.{LoadFault}
use Rattle.page_loader.specs.declared.load_fault.LoadFault.TheVariants.{Page, Sheet, Scene as NoScene, NoMemory as Unloaded}
use Rattle.page_loader.proofs.LoadOutcome.{every_loaded}
use Rattle.page_loader.proofs.OneLoading.{one_load}
use Rattle.flash_top.specs.Refusals.{Breaks, EveryPageIsLoadedOrRefused, IsLoadedAs, IsRefusal, page_limit, refused}
use Rattle.flash_top.specs.Steps.{IsUnloaded}
use Rattle.flash_top.specs.declared.refusal.PageRefusal.{PageRefusal}
use Rattle.flash_top.specs.declared.refusal.PageRefusal.TheVariants.{TooLong, BadText, TooManyBoxes, BadSheet, UnknownProperty, BadValue, BadKeyframes, OverLimit, NotPlaced, BodyProperty, TooManyAnimations}
use Rattle.flash_top.specs.declared.outcome.Outcome.TheVariants.{Refused}

-- the first fault is a cause of what is told
fault_told : (bytes : List ℕ) (fault : LoadFault) → Breaks bytes fault → IsUnloaded bytes (refused fault)
fault_told bytes (Page (text.BadText place)) is = inr (record { refusal = BadText place; cause = is; told = refl })
fault_told bytes (Page text.TooMany) is = inr (record { refusal = TooManyBoxes; cause = is; told = refl })
fault_told bytes (Page text.NoMemory) is = inl refl
fault_told bytes (Sheet (style.BadSheet place)) is = inr (record { refusal = BadSheet place; cause = is; told = refl })
fault_told bytes (Sheet (style.UnknownProperty place)) is = inr (record { refusal = UnknownProperty place; cause = is; told = refl })
fault_told bytes (Sheet (style.BadValue place)) is = inr (record { refusal = BadValue place; cause = is; told = refl })
fault_told bytes (Sheet (style.BadKeyframes place)) is = inr (record { refusal = BadKeyframes place; cause = is; told = refl })
fault_told bytes (Sheet (style.OverLimit place)) is = inr (record { refusal = OverLimit place; cause = is; told = refl })
fault_told bytes (Sheet style.NoMemory) is = inl refl
fault_told bytes (NoScene (element.NotPlaced number)) is = inr (record { refusal = NotPlaced number; cause = is; told = refl })
fault_told bytes (NoScene element.BodyProperty) is = inr (record { refusal = BodyProperty; cause = is; told = refl })
fault_told bytes (NoScene (element.TooManyAnimations number)) is = inr (record { refusal = TooManyAnimations number; cause = is; told = refl })
fault_told bytes (NoScene element.NoMemory) is = inl refl
fault_told bytes Unloaded is = inl refl

pub is_unloaded : (bytes : List ℕ) (fault : LoadFault) → length bytes ≤ page_limit → IsRefused bytes fault → IsUnloaded bytes (refused fault)
is_unloaded bytes fault short (inl want) = inl (ap refused want)
is_unloaded bytes fault short (inr first) = fault_told bytes fault (record { short = short; first = first })

-- the refusal of a fault, and back
fault_of : PageRefusal → LoadFault
fault_of TooLong = Unloaded
fault_of (BadText place) = Page (text.BadText place)
fault_of TooManyBoxes = Page text.TooMany
fault_of (BadSheet place) = Sheet (style.BadSheet place)
fault_of (UnknownProperty place) = Sheet (style.UnknownProperty place)
fault_of (BadValue place) = Sheet (style.BadValue place)
fault_of (BadKeyframes place) = Sheet (style.BadKeyframes place)
fault_of (OverLimit place) = Sheet (style.OverLimit place)
fault_of (NotPlaced number) = NoScene (element.NotPlaced number)
fault_of BodyProperty = NoScene element.BodyProperty
fault_of (TooManyAnimations number) = NoScene (element.TooManyAnimations number)

-- a page is refused for its length, or for the fault of the refusal, which tells the refusal
record IsTold (bytes : List ℕ) (refusal : PageRefusal) : Type 0 where
  pub breaks : Breaks bytes (fault_of refusal)
  pub tells : refused (fault_of refusal) ≡ Refused refusal

cause : (bytes : List ℕ) (refusal : PageRefusal) → IsRefusal bytes refusal → ((refusal ≡ TooLong) × (page_limit < length bytes)) ⊎ IsTold bytes refusal
unfolding fault_of
cause bytes TooLong is = inl (refl, is)
cause bytes (BadText place) is = inr (record { breaks = is; tells = refl })
cause bytes TooManyBoxes is = inr (record { breaks = is; tells = refl })
cause bytes (BadSheet place) is = inr (record { breaks = is; tells = refl })
cause bytes (UnknownProperty place) is = inr (record { breaks = is; tells = refl })
cause bytes (BadValue place) is = inr (record { breaks = is; tells = refl })
cause bytes (BadKeyframes place) is = inr (record { breaks = is; tells = refl })
cause bytes (OverLimit place) is = inr (record { breaks = is; tells = refl })
cause bytes (NotPlaced number) is = inr (record { breaks = is; tells = refl })
cause bytes BodyProperty is = inr (record { breaks = is; tells = refl })
cause bytes (TooManyAnimations number) is = inr (record { breaks = is; tells = refl })

-- bytes that are too many aren't few
not_both : (bytes : List ℕ) → page_limit < length bytes → length bytes ≤ page_limit → ⊥
not_both bytes long short = omega arith

same_fault : (fault other : LoadFault) → ◌≡◌ {A = Result Scene LoadFault} (Err other) (Err fault) → other ≡ fault
same_fault fault other same = cc

same_refusal : (refusal other : PageRefusal) → Refused other ≡ Refused refusal → other ≡ refusal
same_refusal refusal other same = cc

pub one_cause : (bytes : List ℕ) (refusal other : PageRefusal) → IsRefusal bytes refusal → IsRefusal bytes other → other ≡ refusal
one_cause bytes refusal other is also =
    elim (cause bytes refusal is) [
      | inl long ↦ elim (cause bytes other also) [
        | inl too ↦ too.0 ∙ sym long.0
        | inr told ↦ absurd (not_both bytes long.1 told.breaks.short)
      ]
      | inr told ↦ elim (cause bytes other also) [
        | inl too ↦ absurd (not_both bytes too.1 told.breaks.short)
        | inr others ↦
            let same = same_fault (fault_of refusal) (fault_of other) (one_load bytes (Err (fault_of refusal)) (Err (fault_of other)) told.breaks.first others.breaks.first) in
            same_refusal refusal other (sym others.tells ∙ ap refused same ∙ told.tells)
      ]
    ]

-- a page that is loaded is refused for nothing, and is loaded as one scene
no_fault : (bytes : List ℕ) (scene : Scene) (fault : LoadFault) → SpellScene bytes scene → IsFirstFault bytes fault → ⊥
no_fault bytes scene fault is has = let same : ◌≡◌ {A = Result Scene LoadFault} (Err fault) (Ok scene) = one_load bytes (Ok scene) (Err fault) is has in cc

pub refused_or_loaded : (bytes : List ℕ) (refusal : PageRefusal) (scene : Scene) → IsRefusal bytes refusal → IsLoadedAs bytes scene → ⊥
refused_or_loaded bytes refusal scene is has =
    elim (cause bytes refusal is) [
      | inl long ↦ not_both bytes long.1 has.short
      | inr told ↦ no_fault bytes scene (fault_of refusal) has.spelled told.breaks.first
    ]

pub loaded_once : (bytes : List ℕ) (scene other : Scene) → IsLoadedAs bytes scene → IsLoadedAs bytes other → other ≡ scene
loaded_once bytes scene other is also =
    let same : ◌≡◌ {A = Result Scene LoadFault} (Ok other) (Ok scene) = one_load bytes (Ok scene) (Ok other) is.spelled also.spelled in cc

-- the first fault is a cause, since none is want of memory
caused : (bytes : List ℕ) (fault : LoadFault) → Breaks bytes fault → (refusal : PageRefusal) × IsRefusal bytes refusal
caused bytes (Page (text.BadText place)) is = (BadText place, is)
caused bytes (Page text.TooMany) is = (TooManyBoxes, is)
caused bytes (Page text.NoMemory) is = absurd is.first
caused bytes (Sheet (style.BadSheet place)) is = (BadSheet place, is)
caused bytes (Sheet (style.UnknownProperty place)) is = (UnknownProperty place, is)
caused bytes (Sheet (style.BadValue place)) is = (BadValue place, is)
caused bytes (Sheet (style.BadKeyframes place)) is = (BadKeyframes place, is)
caused bytes (Sheet (style.OverLimit place)) is = (OverLimit place, is)
caused bytes (Sheet style.NoMemory) is = absurd is.first
caused bytes (NoScene (element.NotPlaced number)) is = (NotPlaced number, is)
caused bytes (NoScene element.BodyProperty) is = (BodyProperty, is)
caused bytes (NoScene (element.TooManyAnimations number)) is = (TooManyAnimations number, is)
caused bytes (NoScene element.NoMemory) is = absurd is.first
caused bytes Unloaded is = absurd is.first

-- so bytes that aren't too many are loaded, or refused
by_load : (bytes : List ℕ) (outcome : Result Scene LoadFault) → length bytes ≤ page_limit → IsLoad bytes outcome
    → ((scene : Scene) × IsLoadedAs bytes scene) ⊎ ((refusal : PageRefusal) × IsRefusal bytes refusal)
by_load bytes (Ok scene) short is = inl (scene, record { short = short; spelled = is })
by_load bytes (Err fault) short is = inr (caused bytes fault (record { short = short; first = is }))

pub loaded_or_refused : EveryPageIsLoadedOrRefused
loaded_or_refused bytes = elim (cases_lt page_limit (length bytes)) [
  | inl long ↦ inr (TooLong, long)
  | inr short ↦ let load = every_loaded bytes short in by_load bytes load.0 short load.1
]
