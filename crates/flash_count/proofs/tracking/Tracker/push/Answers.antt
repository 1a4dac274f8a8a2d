-- The row stands for one tint more, whatever tints it stood for, and the ring holds it.
use Rattle.std.proofs.Common.{ℕ, ◌≡◌, ◌∙◌, ◌+◌, ◌%◌, List, [], ◌∷◌, ◌++◌, length, length-append, ap, subst, sym}
use Rattle.std.proofs.Math.ListN.{set}
use Rattle.page_model.specs.declared.colour.Tint.{Tint}
use Rattle.flash_count.specs.Tracked.{Tells, pushed}
use Rattle.flash_count.proofs.TrackedLemmas.{ring-pushed, tints_in-last, tints_in-pushed}
use Rattle.flash_count.proofs.tracking.Tracker.push.Goals as goal

pub invariant_of-self : goal.invariant_of-self
invariant_of-self c =
    let keeps = c.self.invariant in
    let rate : ℕ = c.self.inside.rate in
    let count : ℕ = c.self.inside.count in
    let all : List Tint = keeps.tints ++ c.args.tint ∷ [] in
    let are : length all ≡ count + 1 = length-append keeps.tints (c.args.tint ∷ []) ∙ ap (λ n. n + 1) keeps.are in
    let holds = ring-pushed rate count (count % (c.from.result + 1)) keeps.tints c.self.inside.tints c.args.tint keeps.are
    (ap (λ w. count % (w + 1)) c.from.ensures) keeps.holds in record {
      some = keeps.some;
      limit = keeps.limit;
      tints = all;
      are = are;
      stands = c.row_push-self-inside.ensures.stands keeps.tints keeps.are keeps.stands;
      holds = holds;
      tells = subst (λ (ts : List Tint). Tells ts c.row_push-self-inside.result)
          (sym (tints_in-last rate (count + 1) all (set c.self.inside.tints (count % (c.from.result + 1)) c.args.tint) c.args.tint are holds))
          (c.row_push-self-inside.ensures.flag keeps.tints keeps.are keeps.stands);
    }

pub returns : goal.returns
returns c =
    let keeps = c.self.invariant in
    let rate : ℕ = c.self.inside.rate in
    let count : ℕ = c.self.inside.count in
    let holds = ring-pushed rate count (count % (c.from.result + 1)) keeps.tints c.self.inside.tints c.args.tint keeps.are
    (ap (λ w. count % (w + 1)) c.from.ensures) keeps.holds in
    let recent = tints_in-pushed rate count keeps.tints c.args.tint c.self.inside.tints
    (set c.self.inside.tints (count % (c.from.result + 1)) c.args.tint) keeps.are keeps.holds holds in
    ap (λ (ts : List Tint). record { rate = rate; count = count + 1; recent = ts }) recent ∙ ap (pushed c.args.tint) c.self.view_is
