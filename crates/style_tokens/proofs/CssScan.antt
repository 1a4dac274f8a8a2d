-- The scan of a style text, step by step.
use Rattle.std.proofs.Common.{ℕ, ◌≡◌, ◌≤◌, ◌<◌, ◌-◌, ◌∙◌, ◌++◌, ◌==◌, true, false, inl, inr, List, [], ◌∷◌, length, Some, None, refl, ap, sym, subst, arith, append_assoc, append-nil}
use Rattle.std.proofs.lemmas.Bool.Decides.{eqb_tells}
use Rattle.style_tokens.specs.declared.token.CssKind.{CssKind}
use Rattle.style_tokens.specs.declared.token.CssToken.{CssToken}
use Rattle.style_tokens.specs.CssReading.{token_at, gap_at}
use Rattle.style_tokens.specs.CssTokens.{token_between, Begins, nothing, gap, token, AreTokens, IsBadAt}
use Rattle.style_tokens.proofs.CssTakes.{gap_takes}
use Rattle.style_tokens.proofs.CssShorter.{gap_shorter, front_shorter}
use Rattle.style_tokens.proofs.CssUnique.{longest_read, none_read, no_gap_read}

-- what the rest begins with follows the tokens that were found
pub record Continues (end : ℕ) (bytes rest : List ℕ) (tokens : List CssToken) : Type 0 where
  pub more : (others : List CssToken) (left : List ℕ) → Begins end rest others left → Begins end bytes (tokens ++ others) left
  pub shorter : length rest ≤ length bytes

-- a gap was read
pub past_gap : (end : ℕ) (bytes rest after : List ℕ) (tokens : List CssToken) → Continues end bytes rest tokens → gap_at rest ≡ Some after
    → Continues end bytes after tokens
past_gap end bytes rest after tokens so_far e =
    let is = gap_takes rest after e in
    let less = gap_shorter rest after is in
    let before = so_far.shorter in
    record { more = λ others left on. so_far.more others left (gap rest after left others is on); shorter = omega arith }

-- a token was read
pub past_token : (end : ℕ) (bytes rest after : List ℕ) (kind : CssKind) (tokens found : List CssToken) → Continues end bytes rest tokens
    → token_at rest ≡ Some (kind, after) → found ≡ tokens ++ token_between end kind rest after ∷ [] → Continues end bytes after found
past_token end bytes rest after kind tokens found so_far e is_found =
    let is = longest_read rest (kind, after) e in
    let less = front_shorter kind rest after is.front in
    let before = so_far.shorter in
    record {
      more = λ others left on.
          let whole_list = so_far.more (token_between end kind rest after ∷ others) left (token kind rest after left others is on) in
          let same : tokens ++ token_between end kind rest after ∷ others ≡ found ++ others =
          sym (append_assoc tokens (token_between end kind rest after ∷ []) others) ∙ ap (λ t. t ++ others) (sym is_found) in
          let P : List CssToken → Type 0 = λ t. Begins end bytes t left in
          subst P same whole_list;
      shorter = omega arith;
    }

pub some_left : (rest : List ℕ) → (length rest == 0) ≡ false → 0 < length rest
some_left [] e = absurd (cc)
some_left (b ∷ rest) e = omega arith

pub none_left : (rest : List ℕ) → (length rest == 0) ≡ true → rest ≡ []
none_left [] e = refl
none_left (b ∷ rest) e = absurd (elim (eqb_tells (length (b ∷ rest)) 0) [ inl yes_it ↦ omega arith | inr no_it ↦ let h = no_it.0 in cc ])

-- nothing was left
pub all_read : (end : ℕ) (bytes : List ℕ) (rest : List ℕ) (tokens : List CssToken) → Continues end bytes rest tokens → rest ≡ [] → AreTokens end bytes tokens
all_read end bytes rest tokens so_far empty =
    let none : Begins end rest [] rest = nothing rest in
    let P : List ℕ → Type 0 = λ t. Begins end rest [] t in
    let Q : List CssToken → Type 0 = λ t. Begins end bytes t [] in
    subst Q (append-nil tokens) (so_far.more [] [] (subst P empty none))

-- nothing was read
pub stuck_at : (end : ℕ) (bytes rest : List ℕ) (tokens : List CssToken) → Continues end bytes rest tokens → 0 < length rest → gap_at rest ≡ None
    → token_at rest ≡ None → IsBadAt end bytes (end - length rest)
stuck_at end bytes rest tokens so_far some no_gap no_token = record {
  tokens = tokens ++ [];
  rest = rest;
  before = so_far.more [] rest (nothing rest);
  stuck = record { some = some; no_token = none_read rest no_token; no_gap = no_gap_read rest no_gap };
  place = refl;
}
