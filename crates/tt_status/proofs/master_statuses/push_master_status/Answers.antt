use Rattle.std.proofs.Common.{rules, ◌≡◌, ◌++◌}
use Rattle.std.specs.Prelude.{OnOk, string_bytes}
use Rattle.std.specs.List.{flat_map}
use Rattle.tt_status.specs.Master.{master_metric_text, own_metrics}
use Rattle.tt_status.specs.Server.{server_metrics}
use Rattle.tt_status.proofs.Appending.{more_on_ok}
use Rattle.tt_status.proofs.master_statuses.push_master_status.Goals as goal

pub returns : goal.returns
returns c =
    let s = c.args.status.now in
    let text = master_metric_text s.source in
    let servers : OnOk c.push_servers.result (string_bytes c.push_servers.new.text ≡ string_bytes c.push_own.new.text ++ flat_map text (server_metrics s.servers.items)) = search rules in
    record { written = more_on_ok text c.push_servers.result (own_metrics s) (server_metrics s.servers.items) (string_bytes c.args.text.now) _ _ c.in_ok-push_own.ensures servers }
