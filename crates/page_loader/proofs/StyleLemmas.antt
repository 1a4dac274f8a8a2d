-- Style attributes, one after the other.
use Rattle.std.proofs.Common.{◌≡◌, ℕ, zero, suc, ◌+◌, ◌⊎◌, inl, inr, List, [], ◌∷◌, ◌++◌, length, Some, refl, sym, ap, ◌∙◌, subst, arith, slice_get, length-append}
use Rattle.page_model.specs.declared.element.Element.{Element}
use Rattle.page_model.specs.declared.rule.Decl.{Decl}
use Rattle.css_declarations.specs.DeclarationFaults.{IsTold}
use Rattle.css_declarations.specs.InlineText.{IsInlineFault, SpellsInline}
use Rattle.css_declarations.specs.declared.fault.SheetFault.{SheetFault}
use Rattle.css_declarations.specs.declared.fault.SheetFault.TheVariants.{BadSheet, UnknownProperty, BadValue, BadKeyframes, OverLimit, NoMemory}
use Rattle.cascade.proofs.SourceLemmas.{item_there}
use Rattle.page_loader.specs.Loading.{AreInline, IsFirstInline}

-- those of the first elements are read
pub record AreSoFar (text : List ℕ) (elements : List Element) (inline : List (List Decl)) (count : ℕ) : Type 0 where
  pub so_many : length inline ≡ count
  pub spelled :
      (number : ℕ) (element : Element) (decls : List Decl) → slice_get elements number ≡ Some element → slice_get inline number ≡ Some decls
      → SpellsInline text element.style decls

pub none_yet : (text : List ℕ) (elements : List Element) → AreSoFar text elements [] 0
none_yet text elements = record { so_many = refl; spelled = λ number element decls here own. absurd (cc) }

got_push : {A : Type 0} (xs : List A) (x y : A) (i : ℕ) → slice_get (xs ++ x ∷ []) i ≡ Some y → (slice_get xs i ≡ Some y) ⊎ ((i ≡ length xs) × (x ≡ y))
got_push [] x y zero got = inr (refl, cc)
got_push [] x y (suc i) got = absurd (cc)
got_push (z ∷ zs) x y zero got = inl got
got_push (z ∷ zs) x y (suc i) got = elim (got_push zs x y i got) [ inl within ↦ inl within | inr last ↦ inr (omega (arith, last.0), last.1) ]

same_some : {A : Type 0} (x y : A) → Some x ≡ Some y → x ≡ y
same_some x y same = cc

pub one_more : (text : List ℕ) (elements : List Element) (inline : List (List Decl)) (count : ℕ) (element : Element) (decls : List Decl)
    → AreSoFar text elements inline count → slice_get elements count ≡ Some element → SpellsInline text element.style decls
    → AreSoFar text elements (inline ++ decls ∷ []) (count + 1)
one_more text elements inline count element decls are here is = record {
  so_many = omega (arith, length-append inline (decls ∷ []), are.so_many);
  spelled = λ number other others there own.
      elim (got_push inline decls others number own) [
        | inl within ↦ are.spelled number other others there within
        | inr last ↦
            let at = last.0 ∙ are.so_many in
            let same = same_some element other (sym here ∙ ap (slice_get elements) (sym at) ∙ there) in
            subst (SpellsInline text other.style) last.1 (subst (λ (element : Element). SpellsInline text element.style decls) same is)
      ];
}

pub all_read : (text : List ℕ) (elements : List Element) (inline : List (List Decl)) → AreSoFar text elements inline (length elements) → AreInline text elements inline
all_read text elements inline are = record { one_each = are.so_many; spelled = are.spelled }

-- the next one has the first fault
pub first_here : (text : List ℕ) (elements : List Element) (inline : List (List Decl)) (count : ℕ) (element : Element) (fault : SheetFault)
    → AreSoFar text elements inline count → slice_get elements count ≡ Some element → IsInlineFault text element.style fault → IsFirstInline text elements fault
first_here text elements inline count element fault are here is = record {
  number = count;
  element = element;
  is_there = here;
  is_fault = is;
  none_before = λ before other less there.
      let own = item_there inline before (omega (arith, less, are.so_many)) in
      (own.0, are.spelled before other own.0 there own.1);
}

pub refused_here : (text : List ℕ) (elements : List Element) (inline : List (List Decl)) (count : ℕ) (element : Element) (fault : SheetFault)
    → AreSoFar text elements inline count → slice_get elements count ≡ Some element → IsTold (IsInlineFault text element.style) fault
    → (fault ≡ NoMemory) ⊎ IsFirstInline text elements fault
refused_here text elements inline count element NoMemory are here told = inl refl
refused_here text elements inline count element (BadSheet place) are here told = inr (first_here text elements inline count element (BadSheet place) are here told)
refused_here text elements inline count element (UnknownProperty place) are here told = inr (first_here text elements inline count element (UnknownProperty place) are here told)
refused_here text elements inline count element (BadValue place) are here told = inr (first_here text elements inline count element (BadValue place) are here told)
refused_here text elements inline count element (BadKeyframes place) are here told = inr (first_here text elements inline count element (BadKeyframes place) are here told)
refused_here text elements inline count element (OverLimit place) are here told = inr (first_here text elements inline count element (OverLimit place) are here told)
