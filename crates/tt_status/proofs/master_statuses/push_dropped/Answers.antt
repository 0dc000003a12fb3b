use Rattle.std.specs.Prelude.{string_bytes, [], ◌∷◌}
use Rattle.std.specs.List.{flat_map}
use Rattle.tt_seal.specs.declared.faults.SealFault.TheVariants.{Length, UnknownKey, WrongTag}
use Rattle.tt_status.specs.Metric.{head_text}
use Rattle.tt_status.specs.Master.{master_sample_text, dropped_sample, dropped_metric}
use Rattle.tt_status.proofs.Appending.{then_on_ok, alone, alone_on_ok, more, more_on_ok}
use Rattle.tt_status.proofs.master_statuses.push_dropped.Goals as goal

pub returns : goal.returns
returns c =
    let s = c.args.status.now in
    let m = dropped_metric s in
    let sample = master_sample_text m.name s.source in
    let first = dropped_sample s Length in
    let second = dropped_sample s UnknownKey in
    let third = dropped_sample s WrongTag in
    then_on_ok c.push_dropped_for-3.result (string_bytes c.args.text.now) _ _ (head_text m.name m.help m.kind) (flat_map sample (first ∷ second ∷ third ∷ []))
    c.in_ok-push_head.ensures
    (more_on_ok sample c.push_dropped_for-3.result (first ∷ second ∷ []) (third ∷ []) _ _ _
    (more sample (first ∷ []) (second ∷ []) _ _ _ (alone sample first _ _ c.in_ok-push_dropped_for.ensures) (alone sample second _ _ c.in_ok-push_dropped_for-2.ensures))
    (alone_on_ok sample c.push_dropped_for-3.result third _ _ c.push_dropped_for-3.ensures))
