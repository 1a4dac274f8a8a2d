-- One box more behind those before it.
use Rattle.std.proofs.Common.{◌≡◌, ◌∙◌, ℕ, suc, ◌+◌, ◌/◌, ◌≤◌, ◌++◌, List, [], ap, arith, refl, subst, sym}
use Rattle.std.proofs.lemmas.List.{append_assoc, append-nil}
use Rattle.page_gen.specs.GeneratedPage.{box_text, boxes_text, drawn_for, following, number_at}

no-box : (first : ℕ) → boxes_text first 0 ≡ []
unfolding boxes_text
no-box first = refl

box-behind : (first count : ℕ) → boxes_text first (suc count) ≡ boxes_text first count ++ box_text count (drawn_for first count)
unfolding boxes_text
box-behind first count = refl

boxes-more : (first count : ℕ) → boxes_text first (count + 1) ≡ boxes_text first count ++ box_text count (drawn_for first count)
boxes-more first count =
    let more : suc count ≡ count + 1 = omega arith in
    subst (λ n. boxes_text first n ≡ boxes_text first count ++ box_text count (drawn_for first count)) more (box-behind first count)

-- nothing is added at first
pub boxes-none : (first : ℕ) (old : List ℕ) → old ≡ old ++ boxes_text first 0
boxes-none first old = sym (ap (λ text. old ++ text) (no-box first) ∙ append-nil old)

-- one number more of the sequence
pub next-number : (first count z next : ℕ) → z ≡ number_at first count → next ≡ following z → next ≡ number_at first (count + 1)
next-number first count z next is follows =
    let more : suc count ≡ count + 1 = omega arith in
    subst (λ n. next ≡ number_at first n) more (follows ∙ ap following is)

-- one box more
pub box-more : (first count next : ℕ) (old before added after : List ℕ) → next ≡ number_at first (count + 1)
    → before ≡ old ++ boxes_text first count → added ≡ box_text count (next / 65536) → after ≡ before ++ added
    → after ≡ old ++ boxes_text first (count + 1)
box-more first count next old before added after follows is box_is behind =
    let box : added ≡ box_text count (drawn_for first count) = box_is ∙ ap (λ n. box_text count (n / 65536)) follows in
    behind ∙ ap (λ text. text ++ added) is ∙ append_assoc old (boxes_text first count) added
    ∙ ap (λ text. old ++ (boxes_text first count ++ text)) box ∙ ap (λ text. old ++ text) (sym (boxes-more first count))

-- after the last one there are as many as wanted
pub boxes-all : (first count : ℕ) (old text : List ℕ) → 64 ≤ count → count ≤ 64 → text ≡ old ++ boxes_text first count
    → text ≡ old ++ boxes_text first 64
boxes-all first count old text past few is =
    let all : count ≡ 64 = omega arith in
    subst (λ n. text ≡ old ++ boxes_text first n) all is
