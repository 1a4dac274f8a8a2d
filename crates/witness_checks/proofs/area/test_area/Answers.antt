-- The number of all pixels fits.
use Rattle.std.proofs.Common.{List, ap, arith, ◌∙◌, ◌≡◌, ◌*◌}
use Rattle.std.specs.Prelude.{sum_by}
use Rattle.page_model.specs.declared.witness.Part.{Part}
use Rattle.witness_laws.proofs.WitnessLemmas.{parts_fit_the_rectangle}
use Rattle.witness_checks.proofs.area.test_area.Goals as goal

pub overflow_cast-found : goal.overflow_cast-found
overflow_cast-found c =
    let counted : c.area_of-found.result ≡ sum_by (λ (part : Part). part.width * part.height) c.args.witness.now.parts =
    c.area_of-found.ensures ∙ ap (λ (parts : List Part). sum_by (λ (part : Part). part.width * part.height) parts) c.as_slice.ensures in
    let fits = parts_fit_the_rectangle c.args.setup.now c.args.witness.now c.requires.placed.inside c.requires.placed.apart in
    omega (arith, fits, counted)
