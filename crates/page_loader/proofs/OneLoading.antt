-- A file comes to one thing at most.
use Rattle.std.proofs.Common.{◌≡◌, ℕ, suc, ◌<◌, ◌⊎◌, inl, inr, List, [], ◌∷◌, length, Some, Result, Ok, Err, refl, sym, ap, ◌∙◌, subst, arith, slice_get}
use Rattle.std.specs.Prelude.{fold, IfErr, IfOk}
use Rattle.std.proofs.lemmas.Bool.{cases_lt}
use Rattle.std.proofs.lemmas.Option.{slice_get_within}
use Rattle.page_model.specs.declared.element.Element.{Element}
use Rattle.page_model.specs.declared.element.PageText.{PageText}
use Rattle.page_model.specs.declared.rule.Decl.{Decl}
use Rattle.page_model.specs.declared.scene.Layer.{Layer}
use Rattle.page_model.specs.declared.scene.Scene.{Scene}
use Rattle.page_model.specs.Cascade.{IsElement, IsScene, Sources, Winners, candidates_of}
use Rattle.page_model.specs.ValidScene.{IsPaintOrder}
use Rattle.page_reader.specs.PageText.{IsRead}
use Rattle.page_reader.specs.declared.fault.PageFault.{PageFault}
use Rattle.page_reader.specs.declared.fault.PageFault.TheVariants.{BadText, TooMany, NoMemory as Unread}
use Rattle.css_declarations.specs.InlineText.{IsInlineFault, SpellsInline}
use Rattle.css_declarations.specs.declared.fault.SheetFault.{SheetFault}
use Rattle.css_declarations.specs.declared.fault.SheetFault.TheVariants as sheets
use Rattle.css_declarations.proofs.InlineLemmas.{one_inline}
use Rattle.css_reader.specs.SheetState.{SheetState}
use Rattle.css_reader.specs.SheetText.{IsSheetFault, SpellsSheet}
use Rattle.css_reader.proofs.OneSheet.{one_sheet}
use Rattle.cascade_winners.specs.Offers.{offered}
use Rattle.cascade_winners.specs.Views.{no_winners}
use Rattle.cascade_winners.proofs.WinningLemmas.{fold_wins}
use Rattle.cascade.specs.Refusals.{IsTold, told}
use Rattle.cascade.specs.Sources.{sources_of}
use Rattle.cascade.specs.declared.scene_fault.SceneFault.{SceneFault}
use Rattle.cascade.specs.declared.scene_fault.SceneFault.TheVariants as scenes
use Rattle.cascade.proofs.SourceLemmas.{item_there, one_first, scene_has_none}
use Rattle.page_loader.specs.Loading.{AreInline, HasNoScene, HasSheetFault, HasStyleFault, IsFirstFault, IsFirstInline, IsLoad, IsPageFault, IsRefused, IsSceneFault, IsStyleFault, SpellScene, SpellSources, SpellStyle}
use Rattle.page_loader.specs.declared.load_fault.LoadFault.{LoadFault}
use Rattle.page_loader.specs.declared.load_fault.LoadFault.TheVariants.{Page, Sheet, Scene as NoScene, NoMemory}
use Rattle.page_loader.proofs.OneOrder.{one_order}

same_ok : {A E : Type 0} (x y : A) → ◌≡◌ {A = Result A E} (Ok y) (Ok x) → y ≡ x
same_ok x y same = cc

same_err : {A E : Type 0} (x y : E) → ◌≡◌ {A = Result A E} (Err y) (Err x) → y ≡ x
same_err x y same = cc

not_same : {A E : Type 0} (x : A) (y : E) → ◌≡◌ {A = Result A E} (Err y) (Ok x) → ⊥
not_same x y same = cc

same_some : {A : Type 0} (x y : A) → Some x ≡ Some y → x ≡ y
same_some x y same = cc

-- lists are the same by their places
same_by_place : {A : Type 0} (xs ys : List A) → length ys ≡ length xs → ((n : ℕ) (x y : A) → slice_get xs n ≡ Some x → slice_get ys n ≡ Some y → y ≡ x) → ys ≡ xs
same_by_place [] [] long same = refl
same_by_place [] (y ∷ ys) long same = absurd (omega (arith, long))
same_by_place (x ∷ xs) [] long same = absurd (omega (arith, long))
same_by_place (x ∷ xs) (y ∷ ys) long same =
    let first = same 0 x y refl refl in
    let rest = same_by_place xs ys (omega (arith, long)) (λ n a b here there. same (suc n) a b here there) in
    (λ i. first i ∷ rest i)

-- the page
page_same : (text : List ℕ) (page other : PageText) → IsRead text page → IsRead text other → other ≡ page
page_same text page other is also = is.spelled.only other also.spelled.spelled

page_apart : (text : List ℕ) (page : PageText) (fault : PageFault) → IsRead text page → IsPageFault text fault → ⊥
page_apart text page (BadText place) is none = none.none page is.spelled.spelled
page_apart text page TooMany is many =
    let same : page ≡ many.page = many.spelled.only page is.spelled.spelled in
    let count : length page.elements ≡ length many.page.elements = ap (λ (page : PageText). length page.elements) same in
    omega (arith, count, many.many, is.few)
page_apart text page Unread is none = none

one_page_fault : (text : List ℕ) (fault other : PageFault) → IsPageFault text fault → IsPageFault text other → other ≡ fault
one_page_fault text (BadText place) (BadText other) is also = ap BadText (is.only other also.bad)
one_page_fault text (BadText place) TooMany is also = absurd (is.none also.page also.spelled.spelled)
one_page_fault text (BadText place) Unread is also = absurd also
one_page_fault text TooMany (BadText other) is also = absurd (also.none is.page is.spelled.spelled)
one_page_fault text TooMany TooMany is also = refl
one_page_fault text TooMany Unread is also = absurd also
one_page_fault text Unread other is also = absurd is

-- the sheet
record AreSame (page other : PageText) (sheet another : SheetState) : Type 0 where
  pub same_page : other ≡ page
  pub same_sheet : another ≡ sheet

style_same : (text : List ℕ) (page other : PageText) (sheet another : SheetState) → SpellStyle text page sheet → SpellStyle text other another → AreSame page other sheet another
style_same text page other sheet another is also =
    let same = page_same text page other is.is_page also.is_page in
    let moved = subst (λ (page : PageText). SpellsSheet text page.sheet another) same also.is_sheet in
    record { same_page = same; same_sheet = same_ok sheet another (one_sheet text page.sheet (Ok sheet) (Ok another) is.is_sheet moved) }

sheet_apart : (text : List ℕ) (page : PageText) (sheet : SheetState) (fault : SheetFault) → SpellStyle text page sheet → HasSheetFault text fault → ⊥
sheet_apart text page sheet fault is has =
    let same = page_same text page has.page is.is_page has.is_page in
    let moved = subst (λ (page : PageText). IsSheetFault text page.sheet fault) same has.is_fault in
    not_same sheet fault (one_sheet text page.sheet (Ok sheet) (Err fault) is.is_sheet moved)

one_sheet_fault : (text : List ℕ) (fault other : SheetFault) → HasSheetFault text fault → HasSheetFault text other → other ≡ fault
one_sheet_fault text fault other is also =
    let same = page_same text is.page also.page is.is_page also.is_page in
    let moved = subst (λ (page : PageText). IsSheetFault text page.sheet other) same also.is_fault in
    same_err fault other (one_sheet text is.page.sheet (Err fault) (Err other) is.is_fault moved)

-- the style attributes
inline_same : (text : List ℕ) (elements : List Element) (inline others : List (List Decl)) → AreInline text elements inline → AreInline text elements others → others ≡ inline
inline_same text elements inline others is also =
    same_by_place inline others (also.one_each ∙ sym is.one_each) (λ n x y here there.
    let element = item_there elements n (omega (arith, slice_get_within inline n x here, is.one_each)) in
    same_ok x y (one_inline text element.0.style (Ok x) (Ok y) (is.spelled n element.0 x element.1 here) (also.spelled n element.0 y element.1 there)))

clash : (text : List ℕ) (element : Element) (decls : List Decl) (fault : SheetFault) → SpellsInline text element.style decls → IsInlineFault text element.style fault → ⊥
clash text element decls fault is has = not_same decls fault (one_inline text element.style (Ok decls) (Err fault) is has)

inline_apart : (text : List ℕ) (elements : List Element) (inline : List (List Decl)) (fault : SheetFault) → AreInline text elements inline → IsFirstInline text elements fault → ⊥
inline_apart text elements inline fault are first =
    let own = item_there inline first.number (omega (arith, slice_get_within elements first.number first.element first.is_there, are.one_each)) in
    clash text first.element own.0 fault (are.spelled first.number first.element own.0 first.is_there own.1) first.is_fault

one_first_inline : (text : List ℕ) (elements : List Element) (fault other : SheetFault) → IsFirstInline text elements fault → IsFirstInline text elements other → other ≡ fault
one_first_inline text elements fault other is also =
    elim (cases_lt is.number also.number) [
      | inl before ↦ let own = also.none_before is.number is.element before is.is_there in absurd (clash text is.element own.0 fault own.1 is.is_fault)
      | inr from ↦ elim (cases_lt also.number is.number) [
        | inl behind ↦ let own = is.none_before also.number also.element behind also.is_there in absurd (clash text also.element own.0 other own.1 also.is_fault)
        | inr upto ↦
            let same : also.number ≡ is.number = omega (arith, from, upto) in
            let element = same_some also.element is.element (sym also.is_there ∙ ap (slice_get elements) same ∙ is.is_there) in
            let moved = subst (λ (element : Element). IsInlineFault text element.style other) element also.is_fault in
            same_err fault other (one_inline text is.element.style (Err fault) (Err other) is.is_fault moved)
      ]
    ]

-- style text
own_style_fault : (text : List ℕ) (fault : SheetFault) → IsStyleFault text fault → HasStyleFault text fault
own_style_fault text (sheets.BadSheet place) is = is
own_style_fault text (sheets.UnknownProperty place) is = is
own_style_fault text (sheets.BadValue place) is = is
own_style_fault text (sheets.BadKeyframes place) is = is
own_style_fault text (sheets.OverLimit place) is = is
own_style_fault text sheets.NoMemory is = absurd is

one_style_fault : (text : List ℕ) (fault other : SheetFault) → HasStyleFault text fault → HasStyleFault text other → other ≡ fault
one_style_fault text fault other (inl is) (inl also) = one_sheet_fault text fault other is also
one_style_fault text fault other (inl is) (inr also) = absurd (sheet_apart text also.page also.sheet fault also.is_style is)
one_style_fault text fault other (inr is) (inl also) = absurd (sheet_apart text is.page is.sheet other is.is_style also)
one_style_fault text fault other (inr is) (inr also) =
    let same = style_same text is.page also.page is.sheet also.sheet is.is_style also.is_style in
    one_first_inline text is.page.elements fault other is.is_first
    (subst (λ (page : PageText). IsFirstInline text page.elements other) same.same_page also.is_first)

page_of_fault : (text : List ℕ) (fault : SheetFault) → HasStyleFault text fault → (page : PageText) × IsRead text page
page_of_fault text fault (inl is) = (is.page, is.is_page)
page_of_fault text fault (inr is) = (is.page, is.is_style.is_page)

style_apart : (text : List ℕ) (sources : Sources) (fault : SheetFault) → SpellSources text sources → HasStyleFault text fault → ⊥
style_apart text sources fault is (inl has) = sheet_apart text is.page is.sheet fault is.is_style has
style_apart text sources fault is (inr has) =
    let same = style_same text is.page has.page is.sheet has.sheet is.is_style has.is_style in
    inline_apart text is.page.elements is.inline fault is.are_inline
    (subst (λ (page : PageText). IsFirstInline text page.elements fault) same.same_page has.is_first)

-- the sources
sources_same : (text : List ℕ) (sources others : Sources) → SpellSources text sources → SpellSources text others → others ≡ sources
sources_same text sources others is also =
    let style = style_same text is.page also.page is.sheet also.sheet is.is_style also.is_style in
    let moved = subst (λ (page : PageText). AreInline text page.elements also.inline) style.same_page also.are_inline in
    let inline = inline_same text is.page.elements is.inline also.inline is.are_inline moved in
    also.sources_are ∙ (λ i. sources_of (style.same_sheet i) (style.same_page i).elements (inline i)) ∙ sym is.sources_are

-- the scene
some_element : (sheet : SheetState) (elements : List Element) (inline : List (List Decl)) → length inline ≡ length elements → (number : ℕ) → number < length elements
    → (element : Element) × (winners : Winners) × IsElement (sources_of sheet elements inline) number element winners
some_element sheet elements inline one_each number within =
    let element = item_there elements number within in
    let decls = item_there inline number (omega (arith, within, one_each)) in
    let all = candidates_of sheet.rules element.0 decls.0 in
    (element.0, fold offered no_winners all, record { is_there = element.1; inline = decls.0; inline_is = decls.1; winners_are = fold_wins all })

one_scene : (sheet : SheetState) (elements : List Element) (inline : List (List Decl)) → length inline ≡ length elements → (scene other : Scene)
    → IsScene (sources_of sheet elements inline) scene → IsScene (sources_of sheet elements inline) other → other ≡ scene
one_scene sheet elements inline one_each scene other is also =
    let layers : other.layers ≡ scene.layers = same_by_place scene.layers other.layers (also.one_each ∙ sym is.one_each) (λ n x y here there.
    let found = some_element sheet elements inline one_each n (omega (arith, slice_get_within scene.layers n x here, is.one_each)) in
    also.layers n y there found.0 found.1 found.2 ∙ sym (is.layers n x here found.0 found.1 found.2)) in
    let order : other.order ≡ scene.order = one_order scene.layers scene.order other.order is.order (subst (λ (layers : List Layer). IsPaintOrder layers other.order) layers also.order) in
    let sets = also.sets ∙ sym is.sets in
    (λ i. record { layers = layers i; order = order i; sets = sets i })

scene_same : (text : List ℕ) (scene other : Scene) → SpellScene text scene → SpellScene text other → other ≡ scene
scene_same text scene other is also =
    let are = is.are_sources in
    let same = sources_same text is.sources also.sources are also.are_sources in
    let first = subst (λ (sources : Sources). IsScene sources scene) are.sources_are is.is_scene in
    let second = subst (λ (sources : Sources). IsScene sources other) (same ∙ are.sources_are) also.is_scene in
    one_scene are.sheet are.page.elements are.inline are.are_inline.one_each scene other first second

own_scene_fault : (text : List ℕ) (fault : SceneFault) → IsSceneFault text fault → HasNoScene text fault
own_scene_fault text (scenes.NotPlaced number) is = is
own_scene_fault text scenes.BodyProperty is = is
own_scene_fault text (scenes.TooManyAnimations number) is = is
own_scene_fault text scenes.NoMemory is = absurd is

scene_apart : (text : List ℕ) (scene : Scene) (fault : SceneFault) → SpellScene text scene → HasNoScene text fault → ⊥
scene_apart text scene fault is has =
    let are = is.are_sources in
    let same = sources_same text is.sources has.sources are has.are_sources in
    let first = subst (λ (sources : Sources). IsScene sources scene) are.sources_are is.is_scene in
    let told = subst (λ (sources : Sources). IsTold sources fault) (same ∙ are.sources_are) has.is_fault in
    scene_has_none are.sheet are.page.elements are.inline are.are_inline.one_each scene first told.number told.kind told.first

one_scene_fault : (text : List ℕ) (fault other : SceneFault) → HasNoScene text fault → HasNoScene text other → other ≡ fault
one_scene_fault text fault other is also =
    let are = is.are_sources in
    let same = sources_same text is.sources also.sources are also.are_sources in
    let first = subst (λ (sources : Sources). IsTold sources fault) are.sources_are is.is_fault in
    let second = subst (λ (sources : Sources). IsTold sources other) (same ∙ are.sources_are) also.is_fault in
    let one = one_first are.sheet are.page.elements are.inline are.are_inline.one_each second.number first.number second.kind first.kind second.first first.first in
    second.is ∙ (λ i. told (one.0 i) (one.1 i)) ∙ sym first.is

-- the file
one_fault : (text : List ℕ) (fault other : LoadFault) → IsFirstFault text fault → IsFirstFault text other → other ≡ fault
one_fault text (Page fault) (Page other) is also = ap Page (one_page_fault text fault other is also)
one_fault text (Page fault) (Sheet other) is also =
    let page = page_of_fault text other (own_style_fault text other also) in absurd (page_apart text page.0 fault page.1 is)
one_fault text (Page fault) (NoScene other) is also =
    let has = own_scene_fault text other also in absurd (page_apart text has.are_sources.page fault has.are_sources.is_style.is_page is)
one_fault text (Page fault) NoMemory is also = absurd also
one_fault text (Sheet fault) (Page other) is also =
    let page = page_of_fault text fault (own_style_fault text fault is) in absurd (page_apart text page.0 other page.1 also)
one_fault text (Sheet fault) (Sheet other) is also = ap Sheet (one_style_fault text fault other (own_style_fault text fault is) (own_style_fault text other also))
one_fault text (Sheet fault) (NoScene other) is also =
    let has = own_scene_fault text other also in absurd (style_apart text has.sources fault has.are_sources (own_style_fault text fault is))
one_fault text (Sheet fault) NoMemory is also = absurd also
one_fault text (NoScene fault) (Page other) is also =
    let has = own_scene_fault text fault is in absurd (page_apart text has.are_sources.page other has.are_sources.is_style.is_page also)
one_fault text (NoScene fault) (Sheet other) is also =
    let has = own_scene_fault text fault is in absurd (style_apart text has.sources other has.are_sources (own_style_fault text other also))
one_fault text (NoScene fault) (NoScene other) is also = ap NoScene (one_scene_fault text fault other (own_scene_fault text fault is) (own_scene_fault text other also))
one_fault text (NoScene fault) NoMemory is also = absurd also
one_fault text NoMemory other is also = absurd is

scene_or_fault : (text : List ℕ) (scene : Scene) (fault : LoadFault) → SpellScene text scene → IsFirstFault text fault → ⊥
scene_or_fault text scene (Page fault) is has = page_apart text is.are_sources.page fault is.are_sources.is_style.is_page has
scene_or_fault text scene (Sheet fault) is has = style_apart text is.sources fault is.are_sources (own_style_fault text fault has)
scene_or_fault text scene (NoScene fault) is has = scene_apart text scene fault is (own_scene_fault text fault has)
scene_or_fault text scene NoMemory is has = has

pub one_load : (text : List ℕ) (outcome other : Result Scene LoadFault) → IsLoad text outcome → IsLoad text other → other ≡ outcome
one_load text (Ok scene) (Ok other) is also = ap (λ s. Ok s) (scene_same text scene other is also)
one_load text (Ok scene) (Err fault) is also = absurd (scene_or_fault text scene fault is also)
one_load text (Err fault) (Ok scene) is also = absurd (scene_or_fault text scene fault also is)
one_load text (Err fault) (Err other) is also = ap (λ f. Err f) (one_fault text fault other is also)

-- what a loader answers is what there is, or want of memory
pub load_told : (text : List ℕ) (result other : Result Scene LoadFault) → IfOk result (SpellScene text) → IfErr result (IsRefused text) → IsLoad text other
    → (result ≡ other) ⊎ (result ≡ Err NoMemory)
load_told text (Ok scene) other is none also = inl (one_load text other (Ok scene) also is)
load_told text (Err fault) other none (inl want) also = inr (ap (λ f. Err f) want)
load_told text (Err fault) other none (inr is) also = inl (one_load text other (Err fault) also is)
