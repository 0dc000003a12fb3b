use Rattle.std.proofs.Common.{◌≡◌, ◌++◌, take}
use Rattle.std.specs.Prelude.{string_bytes}
use Rattle.std.specs.List.{flat_map}
use Rattle.tt_status.specs.Metric.{metric_text}
use Rattle.tt_status.specs.Status.{source_metric}
use Rattle.tt_status.proofs.statuses.push_source_rows.Given as goal

abbrev pub invariant-loop-row : goal.invariant-loop-row
invariant-loop-row l = string_bytes l.text ≡ string_bytes l.fn.text ++ flat_map (λ row. metric_text l.status.machine (source_metric row.aspects.now row.name.now row.help.now row.kind l.status)) (take l.row-index l.rows)
