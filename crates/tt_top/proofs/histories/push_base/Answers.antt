use Rattle.tt_top.specs.History.{base_text}
use Rattle.tt_top.proofs.histories.push_base.Goals as goal

pub returns : goal.returns
unfolding base_text
returns c = rw (c.saturating_sub.ensures, c.wide_word.ensures) at c.push_pieces.ensures
