-- What many flagged pixels are, the flagged pixels of the viewport are.
use Rattle.std.proofs.Common.{ℕ, ℤ, Bool, ◌<◌, arith}
use Rattle.std.specs.Prelude.{IsTrue, nat_lt, ◌&&◌}
use Rattle.std.proofs.lemmas.Bool.{and_from, and_parts, lt-ltb, ltb-true}
use Rattle.page_model.specs.declared.setup.Setup.{Setup}
use Rattle.page_model.specs.Flash.{HasManyFlagged}
use Rattle.flash_laws.proofs.MarkLemmas.{area-le}

-- the marks inside a viewport
abbrev inside_of : Setup → (ℕ → ℕ → Bool) → ℕ → ℕ → Bool
inside_of setup marks column row = marks column row && (nat_lt column setup.width && nat_lt row setup.height)

record IsMarkedInside (setup : Setup) (marks : ℕ → ℕ → Bool) (column row : ℕ) : Type 0 where
  pub marked : IsTrue (marks column row)
  pub across : column < setup.width
  pub down : row < setup.height

inside-parts : (setup : Setup) (marks : ℕ → ℕ → Bool) (column row : ℕ) → IsTrue (inside_of setup marks column row)
    → IsMarkedInside setup marks column row
inside-parts setup marks column row marked =
    let both = and_parts (marks column row) (nat_lt column setup.width && nat_lt row setup.height) marked in
    let sides = and_parts (nat_lt column setup.width) (nat_lt row setup.height) both.1 in
    record { marked = both.0; across = ltb-true column setup.width sides.0; down = ltb-true row setup.height sides.1 }

inside-from : (setup : Setup) (marks : ℕ → ℕ → Bool) (column row : ℕ) → column < setup.width → row < setup.height
    → IsTrue (marks column row) → IsTrue (inside_of setup marks column row)
inside-from setup marks column row across down marked =
    and_from (marks column row) (nat_lt column setup.width && nat_lt row setup.height) marked
    (and_from (nat_lt column setup.width) (nat_lt row setup.height) (lt-ltb column setup.width across) (lt-ltb row setup.height down))

-- so what carries over there carries many over
pub many-inside : (One Other : ℕ → ℕ → Type 0) (setup : Setup) (x y : ℤ)
    → ((column row : ℕ) → column < setup.width → row < setup.height → One column row → Other column row)
    → HasManyFlagged One setup x y → HasManyFlagged Other setup x y
many-inside One Other setup x y carries many = record {
  marks = inside_of setup many.marks;
  flagged = λ column row marked.
      let parts = inside-parts setup many.marks column row marked in
      carries column row parts.across parts.down (many.flagged column row parts.marked);
  inside = λ column row marked. many.inside column row (inside-parts setup many.marks column row marked).marked;
  many =
      let count = area-le setup.width setup.height many.marks (inside_of setup many.marks)
      (λ column row across down marked. inside-from setup many.marks column row across down marked) in
      omega (arith, count, many.many);
}
