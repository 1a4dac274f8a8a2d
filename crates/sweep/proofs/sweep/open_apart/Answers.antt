-- The regions pass, so the scene is safe for ever; there is one cell, and no row.
use Rattle.std.proofs.Common.{◌∙◌, ap, refl, subst, sym}
use Rattle.apart_judge.specs.Judging.{IsJudging}
use Rattle.region_split.specs.Cutting.{Edges}
use Rattle.sweep.proofs.ApartLemmas.{passes-apart}
use Rattle.sweep.proofs.sweep.open_apart.Goals as goal

pub returns : goal.returns
returns c =
    let judged = subst (IsJudging c.args.scene c.args.setup) c.in-Some.is c.in_ok-frames.ensures in
    let none = c.in_ok-room.ensures.room.rows.all in record {
      scene_is = refl;
      setup_is = refl;
      ready = record {
        valid = c.requires.valid;
        free = none ∙ sym c.in_ok-room.ensures.free;
        by = record {
          passes = passes-apart c.args.scene c.args.setup c.in-Some.frames c.requires.valid c.rate.ensures.some c.requires.beyond judged;
          columns = ap (λ (edges : Edges). edges.xs) c.in_ok-cuts.ensures;
          rows = ap (λ (edges : Edges). edges.ys) c.in_ok-cuts.ensures;
          none = none;
        };
      };
    }
