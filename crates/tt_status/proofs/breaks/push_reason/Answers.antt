use Rattle.std.specs.Prelude.{string_bytes, [], ◌∷◌}
use Rattle.std.specs.List.{flat_map}
use Rattle.tt_status.specs.Metric.{head_text, metric_text, sample_text}
use Rattle.tt_status.specs.Status.{count, reason_metric}
use Rattle.tt_status.specs.declared.metrics.Subject.TheVariants.{Break}
use Rattle.tt_status.proofs.Appending.{then_on_ok, alone_on_ok}
use Rattle.tt_status.proofs.breaks.push_reason.Goals as goal

pub returns : goal.returns
returns c =
    let m = reason_metric c.args.reason in
    let sample = sample_text m.name c.args.machine in
    let one = count (Break c.args.reason) 1 in
    let r = c.push_sample.result in
    alone_on_ok (metric_text c.args.machine) r m (string_bytes c.args.text.now) _
    (then_on_ok r (string_bytes c.args.text.now) _ _ (head_text m.name m.help m.kind) (flat_map sample (one ∷ []))
    c.in_ok-push_head.ensures (alone_on_ok sample r one _ _ c.push_sample.ensures))
