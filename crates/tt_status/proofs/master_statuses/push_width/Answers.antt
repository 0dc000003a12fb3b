use Rattle.std.specs.Prelude.{string_bytes, [], ◌∷◌}
use Rattle.std.specs.List.{flat_map}
use Rattle.tt_status.specs.Metric.{Sample, head_text}
use Rattle.tt_status.specs.Master.{master_sample_text}
use Rattle.tt_status.specs.declared.metrics.Kind.TheVariants.{Gauge}
use Rattle.tt_status.specs.declared.metrics.Value.TheVariants.{Nanos}
use Rattle.tt_status.specs.declared.metrics.Subject.TheVariants.{Machine}
use Rattle.tt_status.proofs.Appending.{then_on_ok, alone_on_ok}
use Rattle.tt_status.proofs.master_statuses.push_width.Goals as goal

pub returns : goal.returns
returns c =
    let text = master_sample_text c.args.name.now c.args.source in
    let one : Sample = record { subject = Machine; value = Nanos c.args.width } in
    then_on_ok c.push_labelled.result (string_bytes c.args.text.now) _ _ (head_text c.args.name.now c.args.help.now Gauge) (flat_map text (one ∷ []))
    c.in_ok-push_head.ensures (alone_on_ok text c.push_labelled.result one _ _ c.push_labelled.ensures)
