use Rattle.std.proofs.Common.{◌∙◌}
use Rattle.tt_stamp.proofs.Runs.{least_above-last_of}
use Rattle.tt_stamp.proofs.Seats.{last_from_word}
use Rattle.tt_stamp.proofs.sequencers.Sequencer.last.Goals as goal

pub returns-clause-value : goal.returns-clause-value
returns-clause-value c =
    last_from_word _ _ c.look.result (c.look.ensures.word ∙ least_above-last_of _ _ c.look.ensures.looks.same.legal) c.checked_sub.ensures
