-- The line that `check` tells of a page that fails is the file of its witness.
use Rattle.std.proofs.Common.{◌≡◌, ℕ, zero, suc, ◌*◌, ◌<◌, ◌≤◌, List, [], ◌∷◌, length, length-append, sum_by, refl, arith, inl, inr}
use Rattle.std.specs.List.{AllByRecursion as Each}
use Rattle.std.proofs.lemmas.Bool.{cases_lt}
use Rattle.std.proofs.lemmas.List.Elements.{recursion_from_All}
use Rattle.std.proofs.lemmas.List.Sums.{sum_by-cons}
use Rattle.page_model.specs.Enclosure.{own}
use Rattle.page_model.specs.Viewing.{Viewing}
use Rattle.page_model.specs.WitnessConditions.{LiesInside}
use Rattle.page_model.specs.declared.scene.Scene.{Scene}
use Rattle.page_model.specs.declared.witness.Part.{Part}
use Rattle.page_model.specs.declared.witness.Witness.{Witness}
use Rattle.wide_laws.proofs.LooseLemmas.{loose_run-met}
use Rattle.witness_laws.specs.Acceptance.{IsAccepted}
use Rattle.witness_laws.proofs.WitnessLemmas.{parts_fit_the_rectangle}
use Rattle.witness_text.specs.WitnessForm.{IsInForm}
use Rattle.witness_text.specs.WitnessText.{witness_text}
use Rattle.flash_witness.proofs.LengthLemmas.{witness_short}
use Rattle.witness_text.proofs.ReadLemmas.{own_line}
use Rattle.flash_top.specs.SameAnswers.{ToldWitnessIsAccepted}
use Rattle.flash_top.specs.Texts.{text_of}
use Rattle.flash_top.specs.Verdicts.{IsWitnessFile}
use Rattle.flash_top.specs.declared.outcome.Outcome.TheVariants.{Fail}
use Rattle.flash_top.proofs.AcceptedLemmas.{accepted_with}
use Rattle.flash_top.proofs.OwnTextLemmas.{own_read, own_utf8}

some_pixel : (width height : ℕ) → 0 < width → 0 < height → 1 ≤ width * height
some_pixel zero height wide high = absurd (omega arith)
some_pixel (suc m) zero wide high = absurd (omega arith)
some_pixel (suc m) (suc n) wide high = omega arith

-- there are at most as many parts as pixels in them
parts_few : (setup : Viewing) (w : Witness) (parts : List Part) → Each (LiesInside setup w) parts
    → length parts ≤ sum_by (λ (part : Part). part.width * part.height) parts
parts_few setup w [] inside = omega arith
parts_few setup w (part ∷ parts) inside =
    let one = some_pixel part.width part.height inside.0.some_width inside.0.some_height in
    let rest = parts_few setup w parts inside.1 in
    omega (arith, one, rest, sum_by-cons (λ (part : Part). part.width * part.height) part parts)

accepted_few : (scene : Scene) (setup : Viewing) (w : Witness) → IsAccepted scene setup w → length w.parts ≤ 87296
accepted_few scene setup w accepted = elim (cases_lt 87296 (length w.parts)) [
  | inl many ↦ absurd (loose_run-met own scene setup w.start (λ run states.
      let is = accepted run states in
      let fit = parts_fit_the_rectangle setup w is.inside is.apart in
      let few = parts_few setup w w.parts (recursion_from_All (LiesInside setup w) w.parts is.inside) in
      omega (arith, many, fit, few)))
  | inr few ↦ few
]

told_file : (scene : Scene) (setup : Viewing) (w : Witness) → IsAccepted scene setup w → IsInForm w → IsWitnessFile (text_of (Fail w)) w
told_file scene setup w accepted form =
    let short = witness_short w form (accepted_few scene setup w accepted) in
    record {
      short = omega (arith, short, length-append (witness_text w) (10 ∷ []));
      is_text = own_line (witness_text w) (text_of (Fail w)) w (own_utf8 w form) (own_read w form) form refl;
    }

pub told_accepted : ToldWitnessIsAccepted
told_accepted setup bytes w outcome fails is =
    accepted_with setup bytes (text_of (Fail w)) w outcome fails (told_file fails.scene setup w fails.holds.accepted fails.holds.form) is
