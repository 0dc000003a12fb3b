use Rattle.tt_top.proofs.charts.push_fused_label.Goals as goal

pub returns : goal.returns
returns c = rw (c.row.ensures.value, c.row-2.ensures.value) at c.push_pieces.ensures
