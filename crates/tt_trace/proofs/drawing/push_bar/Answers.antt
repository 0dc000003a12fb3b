use Rattle.tt_trace.proofs.drawing.push_bar.Goals as goal

pub returns : goal.returns
returns c =
    rw (c.saturating_sub-width.ensures, c.across.ensures.value, c.across-from.ensures.value, c.across-over.ensures.value, c.across-spot.ensures.value, c.middle.ensures.value, c.from-machine.ensures)
    at c.push_shapes.ensures
