use Rattle.tt_judge.proofs.TermDeciding.{is_in_conflict-decides, none-HasNoConflict}
use Rattle.tt_judge.proofs.terms.term_laws.Goals as goal

pub returns : goal.returns
returns c = record { decided = is_in_conflict-decides; none = none-HasNoConflict }
