use Rattle.std.specs.Prelude.{string_bytes, [], ◌∷◌}
use Rattle.tt_status.specs.Metric.{metric_text}
use Rattle.tt_status.specs.Status.{break_time_metric, reason_metrics}
use Rattle.tt_status.proofs.Appending.{more_on_ok}
use Rattle.tt_status.proofs.breaks.push_break.Goals as goal

pub returns : goal.returns
returns c =
    let last = c.args.last.now in
    more_on_ok (metric_text c.args.machine) c.push_some_reason.result (break_time_metric last.time ∷ []) (reason_metrics last.reason) (string_bytes c.args.text.now) _ _
    c.in_ok-push_break_time.ensures c.push_some_reason.ensures
