use Rattle.std.specs.Prelude.{string_bytes}
use Rattle.tt_status.proofs.Appending.{then_on_ok}
use Rattle.tt_status.proofs.statuses.push_status.Goals as goal

pub returns : goal.returns
returns c = record {
  written = then_on_ok c.push_source_infos.result (string_bytes c.args.text.now) _ _ _ _ c.in_ok-push_numbers.ensures c.push_source_infos.ensures;
}
