use Rattle.std.specs.Prelude.{string_bytes, [], ◌∷◌}
use Rattle.std.specs.List.{flat_map}
use Rattle.tt_status.specs.Metric.{metric_text}
use Rattle.tt_status.specs.Status.{commit_waits_metric, round_trips_metric, reading_widths_metric}
use Rattle.tt_status.proofs.Appending.{then_on_ok, alone_on_ok}
use Rattle.tt_status.proofs.services.push_histograms.Goals as goal

pub returns : goal.returns
returns c =
    let s = c.args.status.now in
    let text = metric_text s.machine in
    let r = c.push_histogram-3.result in
    then_on_ok r (string_bytes c.args.text.now) _ _ (text (commit_waits_metric s)) (flat_map text (round_trips_metric s ∷ reading_widths_metric s ∷ []))
    c.in_ok-push_histogram.ensures
    (then_on_ok r _ _ _ (text (round_trips_metric s)) (flat_map text (reading_widths_metric s ∷ []))
    c.in_ok-push_histogram-2.ensures (alone_on_ok text r (reading_widths_metric s) _ _ c.push_histogram-3.ensures))
