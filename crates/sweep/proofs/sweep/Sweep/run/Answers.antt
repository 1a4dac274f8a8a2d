-- One pass over the whole page tells its verdict.
use Rattle.std.proofs.Common.{length, subst, sym}
use Rattle.std.specs.Prelude.{count_by}
use Rattle.page_model.specs.Horizon.{frames_for}
use Rattle.cell_flags.proofs.RunLemmas.{cut-alike}
use Rattle.sweep.specs.Verdicts.{IsReady, IsVerdictBy, Judged}
use Rattle.sweep.proofs.VerdictLemmas.{ready-whole, whole-is}
use Rattle.sweep.proofs.sweep.Sweep.run.Goals as goal

pub find-requires-clause-cells : goal.find-requires-clause-cells
find-requires-clause-cells c =
    let s = c.self.inside in
    let judged : Judged = record {
      scene = s.scene;
      setup = s.setup;
      cuts = s.cuts;
      needed = s.needed;
      rows = length s.room.pool.rows;
      free = count_by (λ is_free. is_free) s.room.pool.free;
      apart = s.apart;
    } in
    let ready : IsReady judged = subst IsReady (sym c.self.view_is) c.requires in
    cut-alike s.scene s.setup (frames_for s.setup s.needed) s.cuts (ready-whole judged c.if-self.false ready).cut

pub returns-clause-verdict : goal.returns-clause-verdict
returns-clause-verdict c =
    let s = c.self.inside in
    let judged : Judged = record {
      scene = s.scene;
      setup = s.setup;
      cuts = s.cuts;
      needed = s.needed;
      rows = length s.room.pool.rows;
      free = count_by (λ is_free. is_free) s.room.pool.free;
      apart = s.apart;
    } in
    let ready : IsReady judged = subst IsReady (sym c.self.view_is) c.requires in
    subst (λ (j : Judged). IsVerdictBy j.scene j.setup j.needed j.apart c.verdict.result) c.self.view_is
    (whole-is judged c.verdict.result c.if-self.false ready (c.verdict.ensures s.scene s.setup s.cuts c.find.ensures.found))
