use Rattle.std.specs.Prelude.{string_bytes, [], ◌∷◌}
use Rattle.std.specs.List.{flat_map}
use Rattle.tt_status.specs.Metric.{head_text, sample_text}
use Rattle.tt_status.specs.Status.{build_metric, count}
use Rattle.tt_status.specs.declared.metrics.Subject.TheVariants.{Version}
use Rattle.tt_status.proofs.Appending.{then_on_ok, alone_on_ok}
use Rattle.tt_status.proofs.statuses.push_build.Goals as goal

pub returns : goal.returns
returns c =
    let sample = sample_text build_metric.name c.args.machine in
    then_on_ok c.push_sample.result (string_bytes c.args.text.now) _ _ (head_text build_metric.name build_metric.help build_metric.kind) (flat_map sample (count Version 1 ∷ []))
    c.in_ok-push_head.ensures (alone_on_ok sample c.push_sample.result (count Version 1) _ _ c.push_sample.ensures)
