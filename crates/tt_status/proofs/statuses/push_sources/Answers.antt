use Rattle.std.specs.Prelude.{string_bytes, ◌++◌}
use Rattle.tt_status.specs.Metric.{metric_text}
use Rattle.tt_status.specs.Status.{source_round_metrics, source_answer_metrics, source_rate_metrics, source_seal_metrics}
use Rattle.tt_status.proofs.Appending.{more, more_on_ok}
use Rattle.tt_status.proofs.statuses.push_sources.Goals as goal

pub returns : goal.returns
returns c =
    let s = c.args.status.now in
    let text = metric_text s.machine in
    let rounds = source_round_metrics s in
    let answers = rounds ++ source_answer_metrics s in
    let rates = answers ++ source_rate_metrics s in
    more_on_ok text c.push_source_seals.result rates (source_seal_metrics s) (string_bytes c.args.text.now) _ _
    (more text answers (source_rate_metrics s) _ _ _
    (more text rounds (source_answer_metrics s) _ _ _ c.in_ok-push_source_rounds.ensures c.in_ok-push_source_answers.ensures)
    c.in_ok-push_source_rates.ensures)
    c.push_source_seals.ensures
