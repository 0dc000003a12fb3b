use Rattle.std.proofs.Common.{◌≡◌, ◌++◌, map}
use Rattle.std.specs.Prelude.{string_bytes}
use Rattle.std.specs.List.{flat_map, range_with_len}
use Rattle.tt_status.specs.Metric.{head_text}
use Rattle.tt_status.specs.Master.{master_sample_text, unanswered_metric, unanswered_sample}
use Rattle.tt_status.proofs.master_statuses.push_unanswered.Given as goal

abbrev pub invariant-loop-place : goal.invariant-loop-place
invariant-loop-place l =
    string_bytes l.text ≡ string_bytes l.fn.text ++ head_text (unanswered_metric l.status).name (unanswered_metric l.status).help (unanswered_metric l.status).kind
    ++ flat_map (master_sample_text (unanswered_metric l.status).name l.status.source) (map (unanswered_sample l.status) (range_with_len 0 l.place))
