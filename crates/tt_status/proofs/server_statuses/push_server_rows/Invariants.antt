use Rattle.std.proofs.Common.{◌≡◌, ◌++◌, take}
use Rattle.std.specs.Prelude.{string_bytes}
use Rattle.std.specs.List.{flat_map}
use Rattle.tt_status.specs.Master.{master_metric_text}
use Rattle.tt_status.specs.Server.{server_metric}
use Rattle.tt_status.proofs.server_statuses.push_server_rows.Given as goal

abbrev pub invariant-loop-row : goal.invariant-loop-row
invariant-loop-row l = string_bytes l.text ≡ string_bytes l.fn.text ++ flat_map (λ row. master_metric_text l.source (server_metric row.aspect row.name.now row.help.now row.kind l.servers)) (take l.row-index l.rows)
