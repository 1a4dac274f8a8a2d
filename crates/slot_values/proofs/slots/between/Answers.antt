-- The three steps of mixing, of small numbers and an end.
use Rattle.std.proofs.Common.{◌≡◌, ◌∙◌, ap, arith, sym, subst, pos, neg_ℤ, ◌^◌, ℤ, ◌≤ℤ◌, FitsSigned}
use Rattle.std.specs.Int.{w128}
use Rattle.std.proofs.lemmas.Int.{ints, to_z-of_z}
use Rattle.page_model.specs.ValidScene.{IsBetween}
use Rattle.fix_span.specs.declared.frac.Frac.{Frac}
use Rattle.fix_span.specs.Frac.{product, whole_frac}
use Rattle.slot_values.proofs.MixLemmas.{IsSmall, difference-fits, part-fits, all-fits, between-small, mixed-is}
use Rattle.slot_values.proofs.slots.between.Goals as goal

pub mix-requires-clause-way : goal.mix-requires-clause-way
mix-requires-clause-way c =
    let first : IsSmall c.args.from = record { least = omega (arith, ints); greatest = omega (arith, ints) } in
    let second : IsSmall c.args.to = record { least = omega (arith, ints); greatest = omega (arith, ints) } in
    let x : c.whole.result ≡ whole_frac c.args.from = c.whole.ensures ∙ ap whole_frac (omega (arith, ints)) in
    let y : c.whole-2.result ≡ whole_frac c.args.to = c.whole-2.ensures ∙ ap whole_frac (omega (arith, ints)) in
    rw (x, y) (difference-fits c.args.from c.args.to first second)

pub mix-requires-clause-part : goal.mix-requires-clause-part
mix-requires-clause-part c way e =
    let first : IsSmall c.args.from = record { least = omega (arith, ints); greatest = omega (arith, ints) } in
    let second : IsSmall c.args.to = record { least = omega (arith, ints); greatest = omega (arith, ints) } in
    let x : c.whole.result ≡ whole_frac c.args.from = c.whole.ensures ∙ ap whole_frac (omega (arith, ints)) in
    let y : c.whole-2.result ≡ whole_frac c.args.to = c.whole-2.ensures ∙ ap whole_frac (omega (arith, ints)) in
    part-fits c.args.from c.args.to c.args.end way first second c.requires (rw (x, y) at e)

pub mix-requires-clause-sum : goal.mix-requires-clause-sum
mix-requires-clause-sum c way part e f =
    let first : IsSmall c.args.from = record { least = omega (arith, ints); greatest = omega (arith, ints) } in
    let second : IsSmall c.args.to = record { least = omega (arith, ints); greatest = omega (arith, ints) } in
    let x : c.whole.result ≡ whole_frac c.args.from = c.whole.ensures ∙ ap whole_frac (omega (arith, ints)) in
    let y : c.whole-2.result ≡ whole_frac c.args.to = c.whole-2.ensures ∙ ap whole_frac (omega (arith, ints)) in
    let way_is = rw (x, y) at e in
    rw x (all-fits c.args.from c.args.to c.args.end part first second c.requires (f ∙ ap (λ (z : Frac). product z c.args.end) way_is))

pub returns-clause-value : goal.returns-clause-value
returns-clause-value c =
    let x : c.whole.result ≡ whole_frac c.args.from = c.whole.ensures ∙ ap whole_frac (omega (arith, ints)) in
    let y : c.whole-2.result ≡ whole_frac c.args.to = c.whole-2.ensures ∙ ap whole_frac (omega (arith, ints)) in
    let steps = c.mix.ensures.steps in
    let first : IsSmall c.args.from = record { least = omega (arith, ints); greatest = omega (arith, ints) } in
    let second : IsSmall c.args.to = record { least = omega (arith, ints); greatest = omega (arith, ints) } in
    let is = mixed-is c.args.from c.args.to c.args.end c.whole.result c.whole-2.result steps.0 steps.1.0 c.mix.result c.requires x y
    steps.1.1.0 steps.1.1.1 steps.1.1.2 in
    let small = between-small c.args.from c.args.to c.args.end first second c.requires in
    let least = small.at_least in
    let most = small.at_most in
    to_z-of_z w128 c.mix.result.num (rw is (fits _ least most)) ∙ is
  where
    fits : (z : ℤ) → neg_ℤ (pos (2 ^ 100)) ≤ℤ z → z ≤ℤ pos (2 ^ 100) → FitsSigned w128 z
    fits z low high = omega (arith, ints)

pub returns-clause-range : goal.returns-clause-range
returns-clause-range c =
    let first : IsSmall c.args.from = record { least = omega (arith, ints); greatest = omega (arith, ints) } in
    let second : IsSmall c.args.to = record { least = omega (arith, ints); greatest = omega (arith, ints) } in
    subst (λ (z : ℤ). IsBetween (neg_ℤ (pos (2 ^ 100))) (pos (2 ^ 100)) z) (sym (returns-clause-value c))
    (between-small c.args.from c.args.to c.args.end first second c.requires)
