-- Parts that may lie outside, or share pixels: one that is too wide, and one that is told twice.
use Rattle.std.proofs.Common.{◌≡◌, ℕ, zero, suc, ◌*◌, ◌<◌, ◌≤◌, List, [], ◌∷◌, slice_get, Some, arith}
use Rattle.std.specs.Prelude.{pos}
use Rattle.std.proofs.lemmas.Int.{ints}
use Rattle.std.proofs.lemmas.List.Elements.{All-cons, All-nil}
use Rattle.page_model.specs.declared.setup.Setup.{Setup}
use Rattle.page_model.specs.declared.witness.Kind.TheVariants.{General}
use Rattle.page_model.specs.declared.witness.Part.{Part}
use Rattle.page_model.specs.declared.witness.Witness.{Witness}
use Rattle.page_model.specs.WitnessConditions.{LiesInside, PartsApart, PartsInside}
use Rattle.witness_laws.specs.WrongConditions.{OneConditionBreaks}

-- a part of 256 rows, and what is told of parts
abbrev band : ℕ → Part
band width = record { x = 0; y = 0; width = width; height = 256; kind = General; frames = []; tints = [] }

abbrev told : List Part → Witness
told parts = record { width = 341; height = 256; rate = 60; per = 1; start = 0; x = pos 0; y = pos 0; area = 0; parts = parts }

abbrev viewport : Setup
viewport = record { width = 341; height = 256; num = 60; den = 1 }

inside : (parts : List Part) → LiesInside viewport (told parts) (band 341)
inside parts = record {
  some_width = omega arith;
  some_height = omega arith;
  in_width = omega arith;
  in_height = omega arith;
  right_of = omega (arith, ints);
  left_of = omega (arith, ints);
  below = omega (arith, ints);
  above = omega (arith, ints);
}

abbrev twice : List Part
twice = band 341 ∷ (band 341 ∷ [])

twice-inside : PartsInside viewport (told twice)
twice-inside =
    All-cons (LiesInside viewport (told twice)) (band 341) (band 341 ∷ []) (inside twice)
    (All-cons (LiesInside viewport (told twice)) (band 341) [] (inside twice) (All-nil (LiesInside viewport (told twice))))

no_second : (part : Part) (i j : ℕ) (second : Part) → i < j → slice_get (part ∷ []) j ≡ Some second → ⊥
no_second part i zero second less there = omega arith
no_second part i (suc j) second less there = cc

one-apart : (part : Part) → PartsApart (told (part ∷ []))
one-apart part i j first second less at_i at_j column row one other = no_second part i j second less at_j

pub one_condition_breaks : OneConditionBreaks
one_condition_breaks = record {
  inside = λ law. let h : 341 * 256 * 2 ≤ 341 * 256 = law viewport (told twice) twice-inside in omega (arith, h);
  apart = λ law. let h : 342 * 256 ≤ 341 * 256 = law viewport (told (band 342 ∷ [])) (one-apart (band 342)) in omega (arith, h);
}
