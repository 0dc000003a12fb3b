use Rattle.tt_top.specs.Chart.{span_rect}
use Rattle.tt_top.proofs.charts.push_rect.Goals as goal

pub returns : goal.returns
unfolding span_rect
returns c = rw (c.left-left.ensures.value, c.extent-extent.ensures.value) at c.push_bar.ensures
