use Rattle.std.specs.Prelude.{string_bytes, [], ◌∷◌}
use Rattle.std.specs.List.{flat_map}
use Rattle.tt_status.specs.Metric.{head_text}
use Rattle.tt_status.specs.Status.{count}
use Rattle.tt_status.specs.Master.{master_sample_text, master_build_metric}
use Rattle.tt_status.specs.declared.metrics.Subject.TheVariants.{Version}
use Rattle.tt_status.proofs.Appending.{then_on_ok, alone_on_ok}
use Rattle.tt_status.proofs.master_statuses.push_master_build.Goals as goal

pub returns : goal.returns
returns c =
    let sample = master_sample_text master_build_metric.name c.args.source in
    then_on_ok c.push_count.result (string_bytes c.args.text.now) _ _ (head_text master_build_metric.name master_build_metric.help master_build_metric.kind) (flat_map sample (count Version 1 ∷ []))
    c.in_ok-push_head.ensures (alone_on_ok sample c.push_count.result (count Version 1) _ _ c.push_count.ensures)
