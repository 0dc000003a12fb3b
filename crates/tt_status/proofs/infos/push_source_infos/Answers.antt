use Rattle.std.specs.Prelude.{string_bytes}
use Rattle.tt_status.proofs.Appending.{then_on_ok}
use Rattle.tt_status.proofs.infos.push_source_infos.Goals as goal

pub returns : goal.returns
returns c = then_on_ok c.push_infos.result (string_bytes c.args.text.now) _ _ _ _ c.in_ok-push_head.ensures c.push_infos.ensures
