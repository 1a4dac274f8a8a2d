use Rattle.std.proofs.Common.{ap, sym, ◌∙◌, option_map}
use Rattle.css_easings.specs.EasingViews.{pointed}
use Rattle.css_easings.proofs.PointLemmas.{points_read, ended-map}
use Rattle.css_easings.proofs.easings.points_at.Goals as goal

pub returns : goal.returns
returns c =
    ap (option_map pointed) c.ended.ensures ∙ ended-map pointed _ _
    ∙ sym (points_read _ _ _ _ _ _ _ _ _ _ _ (sym c.in_ok-inside.ensures) (sym c.in_ok-x1.ensures) (sym c.in_ok-y1.ensures) (sym c.in_ok-x2.ensures)
    (sym c.in_ok-y2.ensures) (sym c.in_ok-rest.ensures))
