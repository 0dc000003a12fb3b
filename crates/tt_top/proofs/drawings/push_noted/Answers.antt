use Rattle.tt_top.proofs.drawings.push_noted.Goals as goal

pub returns : goal.returns
returns c = rw (c.as_bytes.ensures.value, c.in_ok-signs.ensures) at c.push_framed.ensures
