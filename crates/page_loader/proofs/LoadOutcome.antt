-- Each file comes to a scene or to a first fault: its parts are judged one after the other, up to the first that has a fault.
use Rattle.std.proofs.Common.{◌≡◌, ℕ, zero, suc, ◌+◌, ◌≤◌, ◌⊎◌, List, [], ◌∷◌, ◌++◌, length, Some, Result, Ok, Err, refl, subst, inl, inr, arith, slice_get, get_or, All}
use Rattle.std.proofs.lemmas.Option.{slice_get-get_or}
use Rattle.page_model.specs.declared.element.Element.{Element}
use Rattle.page_model.specs.declared.element.PageText.{PageText}
use Rattle.page_model.specs.declared.rule.Decl.{Decl}
use Rattle.page_model.specs.declared.scene.Scene.{Scene}
use Rattle.page_model.specs.Cascade.{Fault, IsFirstFault as IsFirstOf, not_placed, body_property, too_many_animations}
use Rattle.page_reader.specs.PageText.{IsRead}
use Rattle.page_reader.specs.declared.fault.PageFault.TheVariants.{BadText, TooMany}
use Rattle.page_reader.proofs.PageOutcome.{every_judged}
use Rattle.page_reader.proofs.PagePlaces.{page_whole}
use Rattle.css_declarations.specs.InlineText.{IsInline}
use Rattle.css_declarations.specs.ReadyDecls.{AreReadyDecls}
use Rattle.css_declarations.specs.declared.fault.SheetFault.{SheetFault}
use Rattle.css_declarations.specs.declared.fault.SheetFault.TheVariants as sheets
use Rattle.css_declarations.proofs.InlineLemmas.{inline_ready}
use Rattle.css_declarations.proofs.JudgedLists.{inline_judged, inline_never_memory}
use Rattle.css_reader.specs.SheetState.{SheetState}
use Rattle.css_reader.specs.SheetText.{IsSheet}
use Rattle.css_reader.proofs.OneSheet.{sheet_ready}
use Rattle.css_reader.proofs.JudgedSheets.{sheet_judged, sheet_never_memory}
use Rattle.cascade.specs.Refusals.{told}
use Rattle.cascade.specs.Sources.{sources_of}
use Rattle.cascade.proofs.ResolvingLemmas.{every_resolved}
use Rattle.cascade.proofs.SourceLemmas.{item_there}
use Rattle.page_loader.specs.Loading.{AreInline, HasInlineFault, HasNoScene, HasStyleFault, IsFirstInline, IsLoad, SpellStyle}
use Rattle.page_loader.specs.declared.load_fault.LoadFault.{LoadFault}
use Rattle.page_loader.specs.declared.load_fault.LoadFault.TheVariants.{Page, Sheet, Scene as NoScene}
use Rattle.page_loader.proofs.LoadLemmas.{scene_spelled, spelled}
use Rattle.page_loader.proofs.StyleLemmas.{AreSoFar, all_read, first_here, none_yet, one_more}

abbrev pub IsLoadedOrNot : List ℕ → Type 0
IsLoadedOrNot text = (outcome : Result Scene LoadFault) × IsLoad text outcome

-- a fault of style text that is no want of memory is one of the file
style_answer : (text : List ℕ) (fault : SheetFault) → HasStyleFault text fault → (fault ≡ sheets.NoMemory → ⊥) → IsLoadedOrNot text
style_answer text (sheets.BadSheet place) has named = (Err (Sheet (sheets.BadSheet place)), has)
style_answer text (sheets.UnknownProperty place) has named = (Err (Sheet (sheets.UnknownProperty place)), has)
style_answer text (sheets.BadValue place) has named = (Err (Sheet (sheets.BadValue place)), has)
style_answer text (sheets.BadKeyframes place) has named = (Err (Sheet (sheets.BadKeyframes place)), has)
style_answer text (sheets.OverLimit place) has named = (Err (Sheet (sheets.OverLimit place)), has)
style_answer text sheets.NoMemory has named = absurd (named refl)

-- so is the first fault of an element
no_scene : (text : List ℕ) (page : PageText) (sheet : SheetState) (inline : List (List Decl)) → SpellStyle text page sheet
    → AreInline text page.elements inline → (number : ℕ) (kind : Fault) → IsFirstOf (sources_of sheet page.elements inline) number kind
    → HasNoScene text (told number kind)
no_scene text page sheet inline is are number kind first = record {
  sources = sources_of sheet page.elements inline;
  are_sources = spelled text page sheet inline is are;
  is_fault = record { number = number; kind = kind; first = first; is = refl };
}

scene_answer : (text : List ℕ) (number : ℕ) (kind : Fault) → HasNoScene text (told number kind) → IsLoadedOrNot text
scene_answer text number not_placed has = (Err (NoScene (told number not_placed)), has)
scene_answer text number body_property has = (Err (NoScene (told number body_property)), has)
scene_answer text number too_many_animations has = (Err (NoScene (told number too_many_animations)), has)

-- style attributes that are read are as the cascade needs them
inline_all_ready : (text : List ℕ) (elements : List Element) (inline : List (List Decl)) → AreInline text elements inline
    → All AreReadyDecls inline
inline_all_ready text elements inline are = λ k d within.
    let element = item_there elements k (omega (arith, within, are.one_each)) in
    let decls = get_or inline k d in
    inline_ready text element.0.style (Ok decls) (are.spelled k element.0 decls element.1 (slice_get-get_or inline k d within))

of_styles : (text : List ℕ) (page : PageText) (sheet : SheetState) (inline : List (List Decl)) → length text ≤ 1048576
    → SpellStyle text page sheet → AreInline text page.elements inline → IsLoadedOrNot text
of_styles text page sheet inline short is are =
    let whole = page_whole text page is.is_page in
    let ready = sheet_ready text page.sheet (Ok sheet) (omega (arith, whole.sheet.inside, short)) is.is_sheet in
    elim (every_resolved sheet page.elements inline ready (inline_all_ready text page.elements inline are) are.one_each) [
      | inl made ↦ (Ok made.0, scene_spelled text page sheet inline made.0 is are made.1)
      | inr fault ↦ scene_answer text fault.0 fault.1 (no_scene text page sheet inline is are fault.0 fault.1 fault.2)
    ]

-- a style attribute with a fault, before which none has one
record IsFaultyFirst (text : List ℕ) (elements : List Element) : Type 0 where
  fault : SheetFault
  is_first : IsFirstInline text elements fault
  named : fault ≡ sheets.NoMemory → ⊥

-- the style attributes of the first elements are read, or one of them is the first with a fault
abbrev AreStylesJudged : List ℕ → List Element → ℕ → Type 0
AreStylesJudged text elements count = ((inline : List (List Decl)) × AreSoFar text elements inline count) ⊎ IsFaultyFirst text elements

judge_next : (text : List ℕ) (elements : List Element) (inline : List (List Decl)) (count : ℕ) (element : Element)
    → AreSoFar text elements inline count → slice_get elements count ≡ Some element
    → (outcome : Result (List Decl) SheetFault) → IsInline text element.style outcome → AreStylesJudged text elements (count + 1)
judge_next text elements inline count element are here (Ok decls) is =
    inl (inline ++ decls ∷ [], one_more text elements inline count element decls are here is)
judge_next text elements inline count element are here (Err fault) is = inr (record {
  fault = fault;
  is_first = first_here text elements inline count element fault are here is;
  named = λ none. inline_never_memory text element.style (subst (λ (fault : SheetFault). IsInline text element.style (Err fault)) none is);
})

judge_first : (text : List ℕ) (elements : List Element) (count : ℕ) → count ≤ length elements → AreStylesJudged text elements count
judge_first text elements zero within = inl ([], none_yet text elements)
judge_first text elements (suc count) within =
    elim (judge_first text elements count (omega (arith, within))) [
      | inl so_far ↦
          let element = item_there elements count (omega (arith, within)) in
          let outcome = inline_judged text element.0.style in
          let next : count + 1 ≡ suc count = omega arith in
          subst (AreStylesJudged text elements) next (judge_next text elements so_far.0 count element.0 so_far.1 element.1 outcome.0 outcome.1)
      | inr faulty ↦ inr faulty
    ]

of_sheet : (text : List ℕ) (page : PageText) → length text ≤ 1048576 → IsRead text page → (outcome : Result SheetState SheetFault)
    → IsSheet text page.sheet outcome → IsLoadedOrNot text
of_sheet text page short is (Err fault) has =
    style_answer text fault (inl (record { page = page; is_page = is; is_fault = has }))
    (λ none. sheet_never_memory text page.sheet (subst (λ (fault : SheetFault). IsSheet text page.sheet (Err fault)) none has))
of_sheet text page short is (Ok sheet) spells =
    let style : SpellStyle text page sheet = record { is_page = is; is_sheet = spells } in
    elim (judge_first text page.elements (length page.elements) (omega arith)) [
      | inl all ↦ of_styles text page sheet all.0 short style (all_read text page.elements all.0 all.1)
      | inr faulty ↦
          let has : HasInlineFault text faulty.fault = record { page = page; sheet = sheet; is_style = style; is_first = faulty.is_first } in
          style_answer text faulty.fault (inr has) faulty.named
    ]

pub every_loaded : (text : List ℕ) → length text ≤ 1048576 → IsLoadedOrNot text
every_loaded text short =
    elim (every_judged text) [
      | inl read ↦ let outcome = sheet_judged text read.0.sheet in of_sheet text read.0 short read.1 outcome.0 outcome.1
      | inr (inl many) ↦ (Err (Page TooMany), many)
      | inr (inr bad) ↦ (Err (Page (BadText bad.0)), bad.1)
    ]
