use Rattle.std.specs.Prelude.{string_bytes}
use Rattle.tt_status.specs.Master.{master_metric_text}
use Rattle.tt_status.specs.Server.{server_time_metrics, server_count_metrics}
use Rattle.tt_status.proofs.Appending.{more_on_ok}
use Rattle.tt_status.proofs.server_statuses.push_each_server.Goals as goal

pub returns : goal.returns
returns c =
    let servers = c.args.servers.now in
    more_on_ok (master_metric_text c.args.source) c.push_server_counts.result (server_time_metrics servers) (server_count_metrics servers) (string_bytes c.args.text.now) _ _
    c.in_ok-push_server_times.ensures c.push_server_counts.ensures
