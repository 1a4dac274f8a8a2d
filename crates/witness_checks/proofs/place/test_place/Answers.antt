-- The first three conditions hold.
use Rattle.std.proofs.Common.{List, length, rules, subst}
use Rattle.page_model.specs.declared.witness.Part.{Part}
use Rattle.page_model.specs.WitnessConditions.{HasSetup}
use Rattle.witness_checks.specs.Places.{AreApartBefore}
use Rattle.witness_checks.proofs.OverlapLemmas.{parts-apart}
use Rattle.witness_checks.proofs.place.test_place.Goals as goal

pub returns : goal.returns
returns c =
    let same : HasSetup c.args.setup.now c.args.witness.now = search rules in record {
      same_setup = same;
      inside = c.in_default.ensures;
      apart = parts-apart c.args.witness.now
          (subst (λ (parts : List Part). AreApartBefore parts (length parts)) c.as_slice.ensures c.in_default-overlap.ensures);
    }
