use Rattle.tt_poll.proofs.Taking.{same_from_spelling2}
use Rattle.tt_poll.proofs.decoding.one_spelling2.Goals as goal

pub returns : goal.returns
returns c = same_from_spelling2
