use Rattle.std.proofs.Common.{refl}
use Rattle.css_columns.proofs.longhands.columns.Goals as goal

pub returns : goal.returns
returns c =
    rw (
      c.in_ok-push-8.ensures,
      c.in_ok-push-7.ensures,
      c.in_ok-push-6.ensures,
      c.in_ok-push-5.ensures,
      c.in_ok-push-4.ensures,
      c.in_ok-push-3.ensures,
      c.in_ok-push-2.ensures,
      c.in_ok-push.ensures,
      c.new-list.ensures,
      c.in_ok-names.ensures,
      c.in_ok-durations.ensures,
      c.in_ok-easings.ensures,
      c.in_ok-delays.ensures,
      c.in_ok-counts.ensures,
      c.in_ok-directions.ensures,
      c.in_ok-fills.ensures,
      c.in_ok-plays.ensures,
      c.as_slice-slice.ensures,
    ) refl
