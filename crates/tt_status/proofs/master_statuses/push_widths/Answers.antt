use Rattle.std.specs.Prelude.{string_bytes, [], ◌∷◌}
use Rattle.tt_status.specs.Master.{master_metric_text, width_metric, widest_metric}
use Rattle.tt_status.proofs.Appending.{alone, alone_on_ok, more_on_ok}
use Rattle.tt_status.proofs.master_statuses.push_widths.Goals as goal

pub returns : goal.returns
returns c =
    let s = c.args.status.now in
    let text = master_metric_text s.source in
    let last = width_metric s in
    let widest = widest_metric s in
    more_on_ok text c.push_width-2.result (last ∷ []) (widest ∷ []) (string_bytes c.args.text.now) _ _
    (alone text last _ _ c.in_ok-push_width.ensures) (alone_on_ok text c.push_width-2.result widest _ _ c.push_width-2.ensures)
