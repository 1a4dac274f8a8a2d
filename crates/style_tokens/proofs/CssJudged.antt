-- Every text is tokens, or has a first place where nothing begins: it is read from the left as far as it goes.
use Rattle.std.proofs.Common.{ℕ, zero, suc, ◌≡◌, ◌<◌, ◌⊎◌, List, [], ◌∷◌, length, Option, Some, None, refl, inl, inr, arith}
use Rattle.style_tokens.specs.declared.token.CssKind.{CssKind}
use Rattle.style_tokens.specs.declared.token.CssToken.{CssToken}
use Rattle.style_tokens.specs.CssGrammar.{Gap}
use Rattle.style_tokens.specs.CssReading.{token_at, gap_at}
use Rattle.style_tokens.specs.CssTokens.{IsLongest, token_between, nothing, gap, token, AreTokens, IsBadAt}
use Rattle.style_tokens.proofs.CssTakes.{gap_takes}
use Rattle.style_tokens.proofs.CssShorter.{gap_shorter, front_shorter}
use Rattle.style_tokens.proofs.CssUnique.{longest_read, none_read, no_gap_read}

abbrev pub IsScanned : ℕ → List ℕ → Type 0
IsScanned end bytes = ((tokens : List CssToken) × AreTokens end bytes tokens) ⊎ ((place : ℕ) × IsBadAt end bytes place)

-- what is told behind a gap or a token is told before it
behind_gap : (end : ℕ) (bytes after : List ℕ) → Gap bytes after → IsScanned end after → IsScanned end bytes
behind_gap end bytes after is (inl scan) = inl (scan.0, gap bytes after [] scan.0 is scan.1)
behind_gap end bytes after is (inr bad) = inr (
  bad.0,
  record {
    tokens = bad.1.tokens;
    rest = bad.1.rest;
    before = gap bytes after bad.1.rest bad.1.tokens is bad.1.before;
    stuck = bad.1.stuck;
    place = bad.1.place;
  },
)

behind_token : (end : ℕ) (kind : CssKind) (bytes after : List ℕ) → IsLongest kind bytes after → IsScanned end after → IsScanned end bytes
behind_token end kind bytes after is (inl scan) = inl (token_between end kind bytes after ∷ scan.0, token kind bytes after [] scan.0 is scan.1)
behind_token end kind bytes after is (inr bad) = inr (
  bad.0,
  record {
    tokens = token_between end kind bytes after ∷ bad.1.tokens;
    rest = bad.1.rest;
    before = token kind bytes after bad.1.rest bad.1.tokens is bad.1.before;
    stuck = bad.1.stuck;
    place = bad.1.place;
  },
)

-- one step, with what is told of every shorter text
step : (end byte : ℕ) (bytes : List ℕ) → ((after : List ℕ) → length after < length (byte ∷ bytes) → IsScanned end after) → IsScanned end (byte ∷ bytes)
step end byte bytes onward = by_gap (gap_at (byte ∷ bytes)) refl where
  by_token : gap_at (byte ∷ bytes) ≡ None → (found : Option (CssKind × List ℕ)) → token_at (byte ∷ bytes) ≡ found → IsScanned end (byte ∷ bytes)
  by_token no_gap None e = inr (
    _,
    record {
      tokens = [];
      rest = byte ∷ bytes;
      before = nothing (byte ∷ bytes);
      stuck = record { some = omega arith; no_token = none_read (byte ∷ bytes) e; no_gap = no_gap_read (byte ∷ bytes) no_gap };
      place = refl;
    },
  )
  by_token no_gap (Some found) e =
      let is = longest_read (byte ∷ bytes) found e in
      behind_token end found.0 (byte ∷ bytes) found.1 is (onward found.1 (front_shorter found.0 (byte ∷ bytes) found.1 is.front))

  by_gap : (found : Option (List ℕ)) → gap_at (byte ∷ bytes) ≡ found → IsScanned end (byte ∷ bytes)
  by_gap None e = by_token e (token_at (byte ∷ bytes)) refl
  by_gap (Some after) e = let is = gap_takes (byte ∷ bytes) after e in behind_gap end (byte ∷ bytes) after is (onward after (gap_shorter (byte ∷ bytes) after is))

scanned_within : (most end : ℕ) (bytes : List ℕ) → length bytes < most → IsScanned end bytes
scanned_within most end [] less = inl ([], nothing [])
scanned_within zero end (byte ∷ bytes) less = absurd (omega arith)
scanned_within (suc most) end (byte ∷ bytes) less = step end byte bytes (λ after shorter. scanned_within most end after (omega arith))

pub text_scanned : (end : ℕ) (bytes : List ℕ) → IsScanned end bytes
text_scanned end bytes = scanned_within (suc (length bytes)) end bytes (omega arith)
