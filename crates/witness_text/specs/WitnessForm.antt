-- Which bytes are the text of a witness: those that read, by `serde_json`'s reading, as the object of a witness whose numbers fit
-- their types, with nine frames and nine tints in each part, and in each tint a first colour that is at most the second.
use Rattle.std.specs.Prelude.{ℕ, ◌≡◌, ◌⊎◌, ◌<◌, ◌≤◌, ◌≤ℤ◌, pos, negsuc, List, Some, All, IsUtf8}
use Rattle.serde_json.specs.Read.{read}
use Rattle.page_model.specs.declared.colour.Tint.{Tint}
use Rattle.page_model.specs.declared.witness.Part.{Part}
use Rattle.page_model.specs.declared.witness.Witness.{Witness}
use Rattle.page_model.specs.WitnessConditions.{HasNineTurns}
use Rattle.witness_text.specs.WitnessText.{witness_value}

-- one more than the greatest u16, and than the greatest u32
abbrev pub short_limit : ℕ
short_limit = 65536

abbrev pub word_limit : ℕ
word_limit = 4294967296

-- a version tells the rate: one that is whole and below 65,536, or one over 1,001
abbrev pub IsToldRate : ℕ → ℕ → Type 0
IsToldRate rate per = ((per ≡ 1) × (rate < short_limit)) ⊎ (per ≡ 1001)

-- a first number that is at most a second one, and both are bytes
pub record AreOrderedBytes (lo hi : ℕ) : Type 0 where
  pub ordered : lo ≤ hi
  pub fit : hi < 256

-- each channel of a tint is so
pub record IsTintInForm (tint : Tint) : Type 0 where
  pub red : AreOrderedBytes tint.lo.r tint.hi.r
  pub green : AreOrderedBytes tint.lo.g tint.hi.g
  pub blue : AreOrderedBytes tint.lo.b tint.hi.b

pub record IsPartInForm (part : Part) : Type 0 where
  pub x : part.x < short_limit
  pub y : part.y < short_limit
  pub width : part.width < short_limit
  pub height : part.height < short_limit
  pub turns : HasNineTurns part
  pub frames : All (λ k. k < word_limit) part.frames
  pub tints : All IsTintInForm part.tints

pub record IsInForm (w : Witness) : Type 0 where
  pub width : w.width < short_limit
  pub height : w.height < short_limit
  pub rate : w.rate < word_limit
  pub told : IsToldRate w.rate w.per
  pub start : w.start < word_limit
  pub area : w.area < word_limit
  pub x_least : negsuc 2147483647 ≤ℤ w.x
  pub x_greatest : w.x ≤ℤ pos 2147483647
  pub y_least : negsuc 2147483647 ≤ℤ w.y
  pub y_greatest : w.y ≤ℤ pos 2147483647
  pub parts : All IsPartInForm w.parts

-- the bytes are a text of the witness
pub record IsTextOf (bytes : List ℕ) (w : Witness) : Type 0 where
  pub utf8 : IsUtf8 bytes
  pub reads : read bytes ≡ Some (witness_value w)
  pub form : IsInForm w
