-- None of the four edges cuts the places.
use Rattle.std.proofs.Common.{◌∙◌, arith, sym}
use Rattle.std.proofs.lemmas.Bool.{false≢true, not-true}
use Rattle.std.proofs.lemmas.Int.{ints}
use Rattle.even_parts.proofs.even.cuts_nowhere.Goals as goal

pub returns : goal.returns
returns c so = record {
  first_begin = λ cut. false≢true (c.if-cuts.ensures.1 (record {
    behind = omega (arith, ints, cut.behind, c.from.ensures);
    before = omega (arith, ints, cut.before, c.from.ensures);
  }));
  last_begin = λ cut. false≢true (c.if-cuts-2.ensures.1 (record {
    behind = omega (arith, ints, cut.behind, c.from-2.ensures);
    before = omega (arith, ints, cut.before, c.from-2.ensures);
  }));
  first_end = λ cut. false≢true (c.if-cuts-3.ensures.1 (record {
    behind = omega (arith, ints, cut.behind, c.end_of.ensures);
    before = omega (arith, ints, cut.before, c.end_of.ensures);
  }));
  last_end = λ cut. false≢true (sym (not-true c.cuts-4.result so) ∙ c.cuts-4.ensures.1 (record {
    behind = omega (arith, ints, cut.behind, c.end_of-2.ensures);
    before = omega (arith, ints, cut.before, c.end_of-2.ensures);
  }));
}
