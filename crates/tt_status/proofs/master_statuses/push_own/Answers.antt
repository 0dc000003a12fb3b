use Rattle.std.specs.Prelude.{string_bytes, [], ◌∷◌, ◌++◌}
use Rattle.tt_status.specs.Master.{master_metric_text, master_build_metric, keys_metric, keys_refused_metric, answers_metric, dropped_metric, unanswered_metric, width_metrics}
use Rattle.tt_status.proofs.Appending.{alone, more, more_on_ok}
use Rattle.tt_status.proofs.master_statuses.push_own.Goals as goal

pub returns : goal.returns
returns c =
    let s = c.args.status.now in
    let text = master_metric_text s.source in
    let old = string_bytes c.args.text.now in
    let build = master_build_metric ∷ [] in
    let keys = build ++ keys_metric s ∷ [] in
    let refused = keys ++ keys_refused_metric s ∷ [] in
    let answers = refused ++ answers_metric s ∷ [] in
    let dropped = answers ++ dropped_metric s ∷ [] in
    let unanswered = dropped ++ unanswered_metric s ∷ [] in
    more_on_ok text c.push_widths.result unanswered (width_metrics s) old _ _
    (more text dropped (unanswered_metric s ∷ []) old _ _
    (more text answers (dropped_metric s ∷ []) old _ _
    (more text refused (answers_metric s ∷ []) old _ _
    (more text keys (keys_refused_metric s ∷ []) old _ _
    (more text build (keys_metric s ∷ []) old _ _ (alone text master_build_metric old _ c.in_ok-push_master_build.ensures)
    (alone text (keys_metric s) _ _ c.in_ok-push_keys.ensures))
    (alone text (keys_refused_metric s) _ _ c.in_ok-push_keys_refused.ensures))
    (alone text (answers_metric s) _ _ c.in_ok-push_answers.ensures))
    (alone text (dropped_metric s) _ _ c.in_ok-push_dropped.ensures))
    (alone text (unanswered_metric s) _ _ c.in_ok-push_unanswered.ensures))
    c.push_widths.ensures
