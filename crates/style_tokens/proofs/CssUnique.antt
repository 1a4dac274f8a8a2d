-- A text has one list of tokens, or one first place where nothing begins, and not both.
use Rattle.std.proofs.Common.{ℕ, ◌≡◌, ◌<◌, ◌-◌, ◌∙◌, ◌⊎◌, List, [], ◌∷◌, length, Some, None, Result, Ok, Err, refl, ap, sym, inl, inr, subst, arith}
use Rattle.std.proofs.lemmas.Option.{same_Some}
use Rattle.text_tokens.specs.declared.fault.ScanFault.{ScanFault}
use Rattle.text_tokens.specs.declared.fault.ScanFault.TheVariants as faults
use Rattle.style_tokens.specs.declared.token.CssKind.{CssKind}
use Rattle.style_tokens.specs.declared.token.CssToken.{CssToken}
use Rattle.style_tokens.specs.CssGrammar.{Gap}
use Rattle.style_tokens.specs.CssReading.{token_at, gap_at}
use Rattle.style_tokens.specs.CssTokens.{IsFront, IsLongest, token_between, Begins, nothing, gap, token, AreTokens, IsStuck, IsBadAt, IsScan, Gives, Tells}
use Rattle.style_tokens.proofs.CssTakes.{token_takes}
use Rattle.style_tokens.proofs.CssShorter.{gap_shorter, front_shorter}
use Rattle.style_tokens.proofs.CssReaches.{token_reaches, gap_reaches, gap_no_token}

-- the token that is read is the longest
pub longest_read : (bytes : List ℕ) (found : CssKind × List ℕ) → token_at bytes ≡ Some found → IsLongest found.0 bytes found.1
longest_read bytes found e = record {
  front = token_takes bytes found e;
  longest = λ other more front.
      let reaches = token_reaches other bytes more front in
      let same = same_Some reaches.found found (sym reaches.read ∙ e) in
      let P : CssKind × List ℕ → Type 0 = λ f. (length f.1 < length more) ⊎ ((other ≡ f.0) × (more ≡ f.1)) in
      subst P same reaches.far;
}

-- where no token is read, none stands
pub none_read : (bytes : List ℕ) → token_at bytes ≡ None → (kind : CssKind) (rest : List ℕ) → IsFront kind bytes rest → ⊥
none_read bytes e kind rest front = let reaches = token_reaches kind bytes rest front in let read = reaches.read in cc

pub no_gap_read : (bytes : List ℕ) → gap_at bytes ≡ None → (rest : List ℕ) → Gap bytes rest → ⊥
no_gap_read bytes e rest is = let read = gap_reaches bytes rest is in cc

-- a front has one longest token
pub one_longest : (bytes : List ℕ) (kind other : CssKind) (rest more : List ℕ) → IsLongest kind bytes rest → IsLongest other bytes more
    → (kind ≡ other) × (rest ≡ more)
one_longest bytes kind other rest more first second =
    elim (first.longest other more second.front) [
      | inl less ↦ elim (second.longest kind rest first.front) [
        | inl more_less ↦ absurd (omega arith)
        | inr same ↦ same
      ]
      | inr same ↦ (sym same.0, sym same.1)
    ]

one_gap : (bytes rest more : List ℕ) → Gap bytes rest → Gap bytes more → rest ≡ more
one_gap bytes rest more first second = let a = gap_reaches bytes rest first in let b = gap_reaches bytes more second in cc

not_both : (bytes rest more : List ℕ) (kind : CssKind) → Gap bytes rest → IsFront kind bytes more → ⊥
not_both bytes rest more kind is front = none_read bytes (gap_no_token bytes rest is) kind more front

-- nothing begins with these bytes
abbrev pub IsEnd : List ℕ → Type 0
IsEnd bytes = (bytes ≡ []) ⊎ IsStuck bytes

no_gap_at_end : (bytes rest : List ℕ) → IsEnd bytes → Gap bytes rest → ⊥
no_gap_at_end bytes rest (inl empty) is = let less = gap_shorter bytes rest is in let l = ap length empty in omega arith
no_gap_at_end bytes rest (inr stuck) is = stuck.no_gap rest is

no_token_at_end : (bytes rest : List ℕ) (kind : CssKind) → IsEnd bytes → IsFront kind bytes rest → ⊥
no_token_at_end bytes rest kind (inl empty) front = let less = front_shorter kind bytes rest front in let l = ap length empty in omega arith
no_token_at_end bytes rest kind (inr stuck) front = stuck.no_token kind rest front

pub one_scan : (end : ℕ) (bytes : List ℕ) (tokens others : List CssToken) (rest more : List ℕ) → Begins end bytes tokens rest → IsEnd rest
    → Begins end bytes others more → IsEnd more → (tokens ≡ others) × (rest ≡ more)
one_scan end bytes _ _ rest more (nothing _) ends (nothing _) ends_too = (refl, refl)
one_scan end bytes _ _ rest more (nothing _) ends (gap _ after _ _ is on) ends_too = absurd (no_gap_at_end bytes after ends is)
one_scan end bytes _ _ rest more (nothing _) ends (token kind _ after _ _ is on) ends_too = absurd (no_token_at_end bytes after kind ends is.front)
one_scan end bytes _ _ rest more (gap _ after _ _ is on) ends (nothing _) ends_too = absurd (no_gap_at_end bytes after ends_too is)
one_scan end bytes tokens others rest more (gap _ after _ _ is on) ends (gap _ behind _ _ was upon) ends_too =
    let same = one_gap bytes after behind is was in
    let P : List ℕ → Type 0 = λ t. Begins end t others more in
    one_scan end after tokens others rest more on ends (subst P (sym same) upon) ends_too
one_scan end bytes _ _ rest more (gap _ after _ _ is on) ends (token kind _ behind _ _ was upon) ends_too = absurd (not_both bytes after behind kind is was.front)
one_scan end bytes _ _ rest more (token kind _ after _ _ is on) ends (nothing _) ends_too = absurd (no_token_at_end bytes after kind ends_too is.front)
one_scan end bytes _ _ rest more (token kind _ after _ _ is on) ends (gap _ behind _ _ was upon) ends_too = absurd (not_both bytes behind after kind was is.front)
one_scan end bytes _ _ rest more (token kind _ after _ tokens is on) ends (token other _ behind _ others was upon) ends_too =
    let same = one_longest bytes kind other after behind is was in
    let P : List ℕ → Type 0 = λ t. Begins end t others more in
    let later = one_scan end after tokens others rest more on ends (subst P (sym same.1) upon) ends_too in
    (ap (λ k. token_between end k bytes after ∷ tokens) same.0 ∙ ap (λ t. token_between end other bytes t ∷ tokens) same.1 ∙ ap (λ t. token_between end other bytes behind ∷ t) later.0, later.1)

stuck_is_some : (rest : List ℕ) → IsStuck rest → [] ≡ rest → ⊥
stuck_is_some rest stuck e = let some = stuck.some in let l = ap length e in omega arith

-- the tokens that the bytes are are given
pub scan_gives : (end : ℕ) (bytes : List ℕ) (result : Result (List CssToken) ScanFault) (tokens : List CssToken) → IsScan end bytes result
    → AreTokens end bytes tokens → Gives tokens result
scan_gives end bytes (Ok found) tokens scan are = (one_scan end bytes found tokens [] [] scan (inl refl) are (inl refl)).0
scan_gives end bytes (Err (faults.BadToken place)) tokens scan are =
    stuck_is_some scan.rest scan.stuck ((one_scan end bytes tokens scan.tokens [] scan.rest are (inl refl) scan.before (inr scan.stuck)).1)
scan_gives end bytes (Err faults.NoMemory) tokens scan are = tt

-- the fault that stands there is told
pub scan_tells : (end : ℕ) (bytes : List ℕ) (result : Result (List CssToken) ScanFault) (place : ℕ) → IsScan end bytes result
    → IsBadAt end bytes place → Tells place result
scan_tells end bytes (Ok found) place scan bad =
    stuck_is_some bad.rest bad.stuck ((one_scan end bytes found bad.tokens [] bad.rest scan (inl refl) bad.before (inr bad.stuck)).1)
scan_tells end bytes (Err (faults.BadToken at_byte)) place scan bad =
    let same = (one_scan end bytes scan.tokens bad.tokens scan.rest bad.rest scan.before (inr scan.stuck) bad.before (inr bad.stuck)).1 in
    scan.place ∙ ap (λ t. end - length t) same ∙ sym bad.place
scan_tells end bytes (Err faults.NoMemory) place scan bad = tt
