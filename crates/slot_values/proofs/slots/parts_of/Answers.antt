-- So many parts fit.
use Rattle.std.proofs.Common.{◌≡◌, ℕ, ℤ, pos, ◌*◌, ◌^◌, ◌<◌, ◌≤◌, ◌*ℤ◌, ◌≤ℤ◌, ◌<ℤ◌, of_z, to_z, nat_abs, arith, subst, sym}
use Rattle.std.specs.Int.{w128}
use Rattle.std.proofs.lemmas.Int.{ints, to_z-of_z}
use Rattle.slot_values.proofs.RangeLemmas.{parts-are, parts-positive}
use Rattle.slot_values.proofs.slots.parts_of.Goals as goal

coded : (unit : ℕ) (den : ℤ) (n : ℕ) → unit < 2 ^ 32 → pos 0 <ℤ den → den ≤ℤ pos (2 ^ 48) → pos unit *ℤ den ≡ pos n → n ≤ 2 ^ 32 * 2 ^ 48
    → to_z w128 (of_z w128 (to_z w128 unit *ℤ to_z w128 (of_z w128 den))) ≡ pos n
coded unit den n small some few e limit =
    let a : to_z w128 (of_z w128 den) ≡ den = to_z-of_z w128 den (omega (arith, ints, some, few)) in
    let b : to_z w128 unit ≡ pos unit = omega (arith, ints) in
    rw (a, b, e) (to_z-of_z w128 (pos n) (omega (arith, ints)))

pub returns-clause-value : goal.returns-clause-value
returns-clause-value c =
    let positive = parts-positive c.args.slot.unit c.args.end c.requires.unit (omega arith) c.requires.end in
    coded c.args.slot.unit c.args.end.den (c.args.slot.unit * nat_abs c.args.end.den) (omega arith) c.requires.end.positive c.requires.end.few
    (parts-are c.args.slot.unit c.args.end c.requires.end) positive.few

pub returns-clause-some : goal.returns-clause-some
returns-clause-some c =
    let positive = parts-positive c.args.slot.unit c.args.end c.requires.unit (omega arith) c.requires.end in
    subst (λ (z : ℤ). pos 0 <ℤ z) (sym (returns-clause-value c)) (above (c.args.slot.unit * nat_abs c.args.end.den) positive.some)
  where
    above : (n : ℕ) → 0 < n → pos 0 <ℤ pos n
    above n some = omega (arith, ints)

pub returns-clause-few : goal.returns-clause-few
returns-clause-few c =
    let positive = parts-positive c.args.slot.unit c.args.end c.requires.unit (omega arith) c.requires.end in
    subst (λ (z : ℤ). z ≤ℤ pos (2 ^ 100)) (sym (returns-clause-value c)) (below (c.args.slot.unit * nat_abs c.args.end.den) positive.few)
  where
    below : (n : ℕ) → n ≤ 2 ^ 32 * 2 ^ 48 → pos n ≤ℤ pos (2 ^ 100)
    below n few = omega (arith, ints)
