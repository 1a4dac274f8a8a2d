use Rattle.std.proofs.Common.{◌≡◌, ◌<◌, ◌≤◌, ◌-◌, suc, length, map, drop, subst, arith}
use Rattle.page_tokens.specs.HtmlShown.{shown_attribute}
use Rattle.page_reader.proofs.NameLemmas.{Seen, stands_twice}
use Rattle.page_reader.proofs.distinct.are_distinct.Goals as goal

-- a name that was seen stands twice
pub returns-then-not-branch : goal.returns-then-not-branch
returns-then-not-branch c =
    let within : c.adding.left ≤ length c.args.attributes.now = c.adding.invariant.in_range in
    let some : 0 < c.adding.left = omega (arith, c.adding-test.true) in
    let behind : c.adding.left ≡ suc (c.adding.left - 1) = omega arith in
    let seen = subst (λ n. Seen c.adding.names (map shown_attribute (drop n c.args.attributes.now))) behind c.adding.invariant.seen in
    stands_twice shown_attribute c.args.attributes.now (c.adding.left - 1) _ c.adding.names c.in_ok-add.field-0 (omega arith) seen c.in_ok-add.ensures.new c.if-not-branch.true
