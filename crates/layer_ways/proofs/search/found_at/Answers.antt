-- One animation before, and all of them in the end.
use Rattle.std.proofs.Common.{◌≡◌, ◌∙◌, ◌-◌, ◌+◌, ◌<◌, ℕ, arith, length, subst, sym}
use Rattle.layer_ways.specs.Found.{is_found, is_last}
use Rattle.layer_ways.proofs.CourseLemmas.{last-before, later_none}
use Rattle.layer_ways.proofs.FoundLemmas.{edges-both, edges-by, look-both}
use Rattle.layer_ways.proofs.search.found_at.Goals as goal

pub loop-i-preserved : goal.loop-i-preserved
loop-i-preserved c =
    let place : ℕ = length c.args.anims.now - 1 - c.loop-i.i in
    let inside : place < length c.args.anims.now = omega (arith, c.loop-i-test.true) in
    let next : length c.args.anims.now - c.loop-i.i ≡ place + 1 = omega (arith, c.loop-i-test.true) in
    let same : place ≡ length c.args.anims.now - (c.loop-i.i + 1) = omega arith in
    record {
      edges = λ layer layer_is.
          edges-both (is_last c.args.scene.now c.args.setup.now c.args.k layer c.args.anims.now (length c.args.anims.now - c.loop-i.i)) _
          (is_last c.args.scene.now c.args.setup.now c.args.k layer c.args.anims.now (length c.args.anims.now - (c.loop-i.i + 1)))
          c.loop-i.found.edges c.add_at.new.found.edges
          (λ X make prop a b one more.
          subst (λ n. is_last c.args.scene.now c.args.setup.now c.args.k layer c.args.anims.now n X make prop b b) same
          (last-before X make c.args.scene.now c.args.setup.now c.args.k place (length c.args.anims.now - c.loop-i.i) layer c.args.anims.now _
          prop a b inside next one more))
          (c.loop-i.invariant.edges layer layer_is) (c.add_at.ensures.edges layer layer_is);
      look = λ layer layer_is whole.
          look-both (is_last c.args.scene.now c.args.setup.now c.args.k layer c.args.anims.now (length c.args.anims.now - c.loop-i.i)) _
          (is_last c.args.scene.now c.args.setup.now c.args.k layer c.args.anims.now (length c.args.anims.now - (c.loop-i.i + 1)))
          c.loop-i.found.look c.add_at.new.found.look
          (λ X make prop a b one more.
          subst (λ n. is_last c.args.scene.now c.args.setup.now c.args.k layer c.args.anims.now n X make prop b b) same
          (last-before X make c.args.scene.now c.args.setup.now c.args.k place (length c.args.anims.now - c.loop-i.i) layer c.args.anims.now _
          prop a b inside next one more))
          (c.loop-i.invariant.look layer layer_is whole) (c.add_at.ensures.look layer layer_is whole);
    }

pub returns-clause-edges : goal.returns-clause-edges
returns-clause-edges c layer layer_is =
    let none : length c.args.anims.now - c.loop-i.i ≡ 0 = omega (arith, c.loop-i-test.false) in
    edges-by (is_last c.args.scene.now c.args.setup.now c.args.k layer c.args.anims.now (length c.args.anims.now - c.loop-i.i))
    (is_found c.args.scene.now c.args.setup.now c.args.k layer c.args.anims.now) c.loop-i.found.edges c.loop-i.found.edges
    (λ X make prop a b is. sym (later_none b)
    ∙ subst (λ n. is_last c.args.scene.now c.args.setup.now c.args.k layer c.args.anims.now n X make prop b b) none is)
    (c.loop-i.invariant.edges layer layer_is)
