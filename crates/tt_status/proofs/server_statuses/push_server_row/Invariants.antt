use Rattle.std.proofs.Common.{◌≡◌, ◌++◌, map}
use Rattle.std.specs.Prelude.{string_bytes}
use Rattle.std.specs.List.{flat_map, range_with_len}
use Rattle.tt_status.specs.Metric.{head_text}
use Rattle.tt_status.specs.Master.{master_sample_text}
use Rattle.tt_status.specs.Server.{server_sample}
use Rattle.tt_status.proofs.server_statuses.push_server_row.Given as goal

abbrev pub invariant-loop-number : goal.invariant-loop-number
invariant-loop-number l = string_bytes l.text ≡ string_bytes l.fn.text ++ head_text l.row.name.now l.row.help.now l.row.kind ++ flat_map (master_sample_text l.row.name.now l.source) (map (server_sample l.row.aspect l.servers) (range_with_len 0 l.number))
