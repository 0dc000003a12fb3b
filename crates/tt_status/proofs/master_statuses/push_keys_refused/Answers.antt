use Rattle.std.specs.Prelude.{string_bytes, [], ◌∷◌}
use Rattle.std.specs.List.{flat_map}
use Rattle.tt_status.specs.Metric.{head_text}
use Rattle.tt_status.specs.Status.{count}
use Rattle.tt_status.specs.Master.{master_sample_text, keys_refused_metric}
use Rattle.tt_status.specs.declared.metrics.Subject.TheVariants.{Machine}
use Rattle.tt_status.proofs.Appending.{then_on_ok, alone_on_ok}
use Rattle.tt_status.proofs.master_statuses.push_keys_refused.Goals as goal

pub returns : goal.returns
returns c =
    let s = c.args.status.now in
    let m = keys_refused_metric s in
    let sample = master_sample_text m.name s.source in
    then_on_ok c.push_count.result (string_bytes c.args.text.now) _ _ (head_text m.name m.help m.kind) (flat_map sample (count Machine s.keys_refused ∷ []))
    c.in_ok-push_head.ensures (alone_on_ok sample c.push_count.result (count Machine s.keys_refused) _ _ c.push_count.ensures)
