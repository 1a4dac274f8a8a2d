-- The bounds are those of the luminances of both ends.
use Rattle.std.proofs.Common.{◌<◌, ◌≤◌, subst}
use Rattle.std.specs.Prelude.{◌↔◌}
use Rattle.tint_changes.specs.Made.{IsLighter}
use Rattle.tint_changes.proofs.made.next_tint.Goals as goal

pub returns-clause-known : goal.returns-clause-known
returns-clause-known c =
    let light = c.light_of-light.ensures in
    record {
      rise = λ x. subst (λ y. (x < c.rises_below.result) ↔ IsLighter x y) light.greatest (c.rises_below.ensures x);
      fall = λ x small. subst (λ y. (c.rises_from.result ≤ x) ↔ IsLighter y x) light.least (c.rises_from.ensures x small);
      sure_rise = λ x. subst (λ y. (x < c.rises_below-2.result) ↔ IsLighter x y) light.least (c.rises_below-2.ensures x);
      sure_fall = λ x small. subst (λ y. (c.rises_from-2.result ≤ x) ↔ IsLighter y x) light.greatest (c.rises_from-2.ensures x small);
      red = c.has_saturated.ensures;
    }
