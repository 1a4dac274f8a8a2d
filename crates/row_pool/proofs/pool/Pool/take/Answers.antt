use Rattle.std.proofs.Common.{rules, ℕ, ◌≡◌, ◌<◌, ◌≤◌, Bool, List, true, false, arith, get_or, length, subst}
use Rattle.row_pool.proofs.TakeLemmas.{all-below, none-free, not-out, taken}
use Rattle.row_pool.proofs.pool.Pool.take.Goals as goal

pub returns-then-number-self : goal.returns-then-number-self
returns-then-number-self c =
    let passed : (k : ℕ) → c.self.inside.least ≤ k → k < c.first_in-number.result → get_or c.self.inside.out.items k false ≡ true =
    subst (λ (xs : List Bool). (k : ℕ) → c.self.inside.least ≤ k → k < c.first_in-number.result → get_or xs k false ≡ true) c.as_slice.ensures.value c.first_in-number.ensures.passed in
    none-free c.self.inside.rows c.self.inside.width c.self.inside.words.items c.self.inside.out.items c.first_in-number.result c.args.self.now c.self.view_is
    (all-below c.self.inside.out.items c.self.inside.least c.first_in-number.result c.self.invariant.all_out passed) c.if-number-self.true

pub returns : goal.returns
returns c =
    let passed : (k : ℕ) → c.self.inside.least ≤ k → k < c.first_in-number.result → get_or c.self.inside.out.items k false ≡ true =
    subst (λ (xs : List Bool). (k : ℕ) → c.self.inside.least ≤ k → k < c.first_in-number.result → get_or xs k false ≡ true) c.as_slice.ensures.value c.first_in-number.ensures.passed in
    let found : c.first_in-number.result < length c.self.inside.out.items → get_or c.self.inside.out.items c.first_in-number.result true ≡ false =
    subst (λ (xs : List Bool). c.first_in-number.result < length xs → get_or xs c.first_in-number.result true ≡ false) c.as_slice.ensures.value c.first_in-number.ensures.found in
    let inside : c.first_in-number.result < c.self.inside.rows = grind (arith, rules) in
    taken c.self.inside.rows c.self.inside.width c.self.inside.words.items c.hand_out.new.words.items c.self.inside.out.items c.hand_out.new.out.items c.first_in-number.result c.args.self.now
    c.self.view_is (all-below c.self.inside.out.items c.self.inside.least c.first_in-number.result c.self.invariant.all_out passed) inside
    (not-out c.self.inside.out.items c.first_in-number.result found)
    c.hand_out.ensures.words c.hand_out.ensures.count c.hand_out.ensures.here c.hand_out.ensures.others
