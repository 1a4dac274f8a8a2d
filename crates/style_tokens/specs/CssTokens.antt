-- A style text as tokens with gaps between them, and where it is none.
use Rattle.std.specs.Prelude.{ℕ, ◌≡◌, ◌<◌, ◌-◌, ◌⊎◌, List, [], ◌∷◌, ◌++◌, length, Result, Ok, Err}
use Rattle.text_tokens.specs.declared.fault.ScanFault.{ScanFault}
use Rattle.text_tokens.specs.declared.fault.ScanFault.TheVariants as faults
use Rattle.style_tokens.specs.declared.token.CssKind.{CssKind}
use Rattle.style_tokens.specs.declared.token.CssToken.{CssToken}
use Rattle.style_tokens.specs.CssGrammar.{Spells, Gap}

-- a word at the front of the bytes spells a token of this kind, and leaves the rest
pub record IsFront (kind : CssKind) (bytes rest : List ℕ) : Type 0 where
  pub word : List ℕ
  pub spelled : Spells kind word
  pub split : bytes ≡ word ++ rest

-- it is the longest: each token at this front leaves more, or is this one
pub record IsLongest (kind : CssKind) (bytes rest : List ℕ) : Type 0 where
  pub front : IsFront kind bytes rest
  pub longest : (other : CssKind) (more : List ℕ) → IsFront other bytes more → (length rest < length more) ⊎ ((other ≡ kind) × (more ≡ rest))

-- the token that takes the bytes up to the rest, where they reach up to this byte of the file
abbrev pub token_between : ℕ → CssKind → List ℕ → List ℕ → CssToken
token_between end kind bytes rest = record { kind = kind; place = record { from = end - length bytes; to = end - length rest } }

-- the bytes, which reach up to this byte of the file, begin with these tokens and gaps between, and leave the rest
pub data Begins (end : ℕ) : List ℕ → List CssToken → List ℕ → Type 0 where
  nothing : (bytes : List ℕ) → Begins end bytes [] bytes
  gap : (bytes after rest : List ℕ) (tokens : List CssToken) → Gap bytes after → Begins end after tokens rest → Begins end bytes tokens rest
  token : (kind : CssKind) (bytes after rest : List ℕ) (tokens : List CssToken) → IsLongest kind bytes after → Begins end after tokens rest
      → Begins end bytes (token_between end kind bytes after ∷ tokens) rest

-- these bytes are these tokens
abbrev pub AreTokens : ℕ → List ℕ → List CssToken → Type 0
AreTokens end bytes tokens = Begins end bytes tokens []

-- some bytes, with which neither a token nor a gap begins
pub record IsStuck (bytes : List ℕ) : Type 0 where
  pub some : 0 < length bytes
  pub no_token : (kind : CssKind) (rest : List ℕ) → IsFront kind bytes rest → ⊥
  pub no_gap : (rest : List ℕ) → Gap bytes rest → ⊥

-- at this byte of the file nothing begins, and before it only tokens and gaps stand
pub record IsBadAt (end : ℕ) (bytes : List ℕ) (at_byte : ℕ) : Type 0 where
  pub tokens : List CssToken
  pub rest : List ℕ
  pub before : Begins end bytes tokens rest
  pub stuck : IsStuck rest
  pub place : at_byte ≡ end - length rest

-- what a scan of the bytes may answer
abbrev pub IsFault : ℕ → List ℕ → ScanFault → Type 0
IsFault end bytes (faults.BadToken at_byte) = IsBadAt end bytes at_byte
IsFault end bytes faults.NoMemory = Unit {0}

abbrev pub IsScan : ℕ → List ℕ → Result (List CssToken) ScanFault → Type 0
IsScan end bytes (Ok tokens) = AreTokens end bytes tokens
IsScan end bytes (Err fault) = IsFault end bytes fault

-- the answer is these tokens, unless memory was refused
abbrev pub Gives : List CssToken → Result (List CssToken) ScanFault → Type 0
Gives tokens (Ok found) = found ≡ tokens
Gives tokens (Err (faults.BadToken at_byte)) = ⊥
Gives tokens (Err faults.NoMemory) = Unit {0}

-- the answer is the fault at this byte, unless memory was refused
abbrev pub Tells : ℕ → Result (List CssToken) ScanFault → Type 0
Tells place (Ok found) = ⊥
Tells place (Err (faults.BadToken at_byte)) = at_byte ≡ place
Tells place (Err faults.NoMemory) = Unit {0}
