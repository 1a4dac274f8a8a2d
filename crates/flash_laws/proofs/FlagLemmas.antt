-- Proofs of the laws of flags and bad windows.
use Rattle.std.proofs.Common.{ℕ, ◌<◌, ◌≤◌, inl, inr, arith, subst}
use Rattle.std.specs.Prelude.{ℤ, ◌&&◌, nat_lt, IsTrue}
use Rattle.std.proofs.lemmas.Bool.{and_parts, and_from, ltb-true, lt-ltb}
use Rattle.page_model.specs.declared.setup.Setup.{Setup}
use Rattle.page_model.specs.declared.colour.Rgb.{Rgb}
use Rattle.page_model.specs.Flash.{Painting, Flashes, HasManyFlagged, IsFlagged, IsBad, area, colours_at}
use Rattle.page_model.specs.Light.{IsRise, IsFall}
use Rattle.page_model.specs.Red.{IsIntoRed, IsOutOfRed}
use Rattle.page_model.specs.Time.{window_of}
use Rattle.flash_laws.specs.FlagLaws.{ChangesCarryOver, PixelsCarryOver, FlagsCarryOver, IsWider, BadnessGrows}
use Rattle.flash_laws.specs.MarkLaws.{Marks}
use Rattle.flash_laws.proofs.ChainLemmas.{has_chain-carried}
use Rattle.flash_laws.proofs.MarkLemmas.{area-le, area-wider}

pub flashes-carried : (first second : ℕ → Rgb) (start window : ℕ) → ChangesCarryOver start window first second
    → Flashes first start window → Flashes second start window
flashes-carried first second start window carry flashes =
    elim flashes [
      | inl general ↦ inl (has_chain-carried IsRise IsFall IsRise IsFall first second start window carry.rises carry.falls general)
      | inr red ↦ inr (has_chain-carried IsIntoRed IsOutOfRed IsIntoRed IsOutOfRed first second start window carry.into_red carry.out_of_red red)
    ]

-- the marks in a viewport alone
abbrev cut : ℕ → ℕ → Marks → Marks
cut width height marks column row = marks column row && (nat_lt column width && nat_lt row height)

cut-parts : (width height : ℕ) (marks : Marks) (column row : ℕ) → IsTrue (cut width height marks column row)
    → IsTrue (marks column row) × (column < width) × (row < height)
cut-parts width height marks column row h =
    let first = and_parts (marks column row) (nat_lt column width && nat_lt row height) h in
    let second = and_parts (nat_lt column width) (nat_lt row height) first.1 in
    (first.0, ltb-true column width second.0, ltb-true row height second.1)

area-cut : (width height : ℕ) (marks : Marks) → area width height marks ≤ area width height (cut width height marks)
area-cut width height marks =
    area-le width height marks (cut width height marks)
    (λ column row within below marked. and_from (marks column row) (nat_lt column width && nat_lt row height) marked
    (and_from (nat_lt column width) (nat_lt row height) (lt-ltb column width within) (lt-ltb row height below)))

-- what is flagged of the viewport may be flagged otherwise
pub many-carried : (Flagged Flagged' : ℕ → ℕ → Type 0) (setup : Setup) (x y : ℤ)
    → ((column row : ℕ) → column < setup.width → row < setup.height → Flagged column row → Flagged' column row)
    → HasManyFlagged Flagged setup x y → HasManyFlagged Flagged' setup x y
many-carried Flagged Flagged' setup x y carry many = record {
  marks = cut setup.width setup.height many.marks;
  flagged = λ column row marked.
      let parts = cut-parts setup.width setup.height many.marks column row marked in
      carry column row parts.1 parts.2 (many.flagged column row parts.0);
  inside = λ column row marked.
      many.inside column row (cut-parts setup.width setup.height many.marks column row marked).0;
  many = omega (arith, many.many, area-cut setup.width setup.height many.marks);
}

pub bad-carried : (first second : Painting) (setup : Setup) (start : ℕ) (x y : ℤ) → PixelsCarryOver setup start first second
    → IsBad first setup start x y → IsBad second setup start x y
bad-carried first second setup start x y carry bad =
    many-carried (IsFlagged first setup start) (IsFlagged second setup start) setup x y
    (λ column row within below flagged. flashes-carried (colours_at first column row) (colours_at second column row) start (window_of setup) (carry column row within below) flagged)
    bad

pub flags_carry_over : FlagsCarryOver
flags_carry_over = record {
  flashes = flashes-carried;
  bad = bad-carried;
  safe = λ first second setup carry safe start x y bad. safe start x y (bad-carried first second setup start x y (carry start) bad);
}

-- and in a larger viewport
pub many-wider : (Flagged : ℕ → ℕ → Type 0) (setup wider : Setup) (x y : ℤ) → setup.width ≤ wider.width
    → setup.height ≤ wider.height → HasManyFlagged Flagged setup x y → HasManyFlagged Flagged wider x y
many-wider Flagged setup wider x y width height many = record {
  marks = many.marks;
  flagged = many.flagged;
  inside = many.inside;
  many = omega (arith, many.many, area-wider setup.width setup.height wider.width wider.height many.marks width height);
}

bad-wider : (painting : Painting) (setup wider : Setup) (start : ℕ) (x y : ℤ) → IsWider setup wider
    → IsBad painting setup start x y → IsBad painting wider start x y
bad-wider painting setup wider start x y wide bad =
    many-carried (IsFlagged painting setup start) (IsFlagged painting wider start) wider x y
    (λ column row within below flagged. subst (λ window. Flashes (colours_at painting column row) start window) wide.window flagged)
    (many-wider (IsFlagged painting setup start) setup wider x y wide.width wide.height bad)

pub badness_grows : BadnessGrows
badness_grows = record {
  bad = bad-wider;
  safe = λ painting setup wider wide safe start x y bad. safe start x y (bad-wider painting setup wider start x y wide bad);
}
