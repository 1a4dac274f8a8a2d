-- The words of an item, one after the other.
use Rattle.std.proofs.Common.{ℕ, ◌≡◌, ◌∙◌, ◌<◌, true, false, List, [], ◌∷◌, length, take, drop, refl, ap, sym, inl, inr, arith}
use Rattle.std.proofs.lemmas.Bool.{cases_Bool}
use Rattle.style_tokens.specs.declared.token.CssToken.{CssToken}
use Rattle.css_words.specs.Words.{words}
use Rattle.css_values.specs.ShorthandGrammar.{ends_word, groups, word_length}

in_word : (text : List ℕ) (tokens : List CssToken) →
    groups true (words text tokens) ≡ words text (take (word_length true tokens) tokens) ∷ groups false (words text (drop (word_length true tokens) tokens))
in_word text [] = refl
in_word text (t ∷ rest) =
    elim (cases_Bool (ends_word true t.kind)) [
      | inl ends ↦ rw ends refl
      | inr on ↦ rw (on, in_word text rest) refl
    ]

first_word : (text : List ℕ) (tokens : List CssToken) → 0 < length tokens →
    groups false (words text tokens) ≡ words text (take (word_length false tokens) tokens) ∷ groups false (words text (drop (word_length false tokens) tokens))
first_word text [] some = absurd (omega arith)
first_word text (t ∷ rest) some =
    elim (cases_Bool (ends_word false t.kind)) [
      | inl ends ↦ rw ends refl
      | inr on ↦ rw (on, in_word text rest) refl
    ]

pub word_found : (text : List ℕ) (tokens word rest : List CssToken) (n : ℕ) → 0 < length tokens → n ≡ word_length false tokens → word ≡ take n tokens
    → rest ≡ drop n tokens → groups false (words text tokens) ≡ words text word ∷ groups false (words text rest)
word_found text tokens word rest n some is front back =
    first_word text tokens some ∙ ap (λ k. words text (take k tokens) ∷ groups false (words text (drop k tokens))) (sym is)
    ∙ ap (λ t. words text t ∷ groups false (words text (drop n tokens))) (sym front) ∙ ap (λ t. words text word ∷ groups false (words text t)) (sym back)
