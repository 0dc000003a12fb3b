use Rattle.tt_session.proofs.Splitting.{split_is, split_only}
use Rattle.tt_session.proofs.serving.line_laws.Goals as goal

pub returns-clause-is : goal.returns-clause-is
returns-clause-is c = split_is

pub returns-clause-only : goal.returns-clause-only
returns-clause-only c = split_only
