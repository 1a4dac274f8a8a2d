-- The pieces between commas, one after the other.
use Rattle.std.proofs.Common.{ℕ, ◌≡◌, ◌∙◌, ◌&&◌, not, Bool, false, List, [], ◌∷◌, length, take, drop, refl, ap, sym, inl, inr, arith}
use Rattle.std.proofs.lemmas.Bool.{cases_Bool}
use Rattle.style_tokens.specs.declared.token.CssToken.{CssToken}
use Rattle.css_words.specs.Words.{Word, words, is_comma}
use Rattle.css_items.specs.Lists.{pieces, goes_in}
use Rattle.css_items.specs.ListReading.{piece_length}

-- the pieces behind a comma at the front
abbrev pub pieces_behind : List ℕ → List CssToken → List (List Word)
pieces_behind text [] = []
pieces_behind text (comma ∷ rest) = pieces false (words text rest)

first_piece : (text : List ℕ) (inside : Bool) (tokens : List CssToken) →
    pieces inside (words text tokens) ≡ words text (take (piece_length inside tokens) tokens) ∷ pieces_behind text (drop (piece_length inside tokens) tokens)
first_piece text inside [] = refl
first_piece text inside (t ∷ rest) =
    elim (cases_Bool (not inside && is_comma t.kind)) [
      | inl comma ↦ rw comma refl
      | inr other ↦ rw (other, first_piece text (goes_in inside t.kind) rest) refl
    ]

pub piece_found : (text : List ℕ) (tokens item behind : List CssToken) (n : ℕ) → n ≡ piece_length false tokens → item ≡ take n tokens → behind ≡ drop n tokens
    → pieces false (words text tokens) ≡ words text item ∷ pieces_behind text behind
piece_found text tokens item behind n is front back =
    first_piece text false tokens ∙ ap (λ k. words text (take k tokens) ∷ pieces_behind text (drop k tokens)) (sym is)
    ∙ ap (λ t. words text t ∷ pieces_behind text (drop n tokens)) (sym front) ∙ ap (λ t. words text item ∷ pieces_behind text t) (sym back)

pub none_behind : (text : List ℕ) (tokens : List CssToken) → length tokens ≡ 0 → pieces_behind text tokens ≡ []
none_behind text [] e = refl
none_behind text (t ∷ tokens) e = absurd (omega arith)
