use Rattle.tt_session.proofs.deadlines.DeadlineReaderByteReader.read.Goals as goal

pub returns-in-Err-clause-why : goal.returns-in-Err-clause-why
returns-in-Err-clause-why g c = rw (← c.self.view_is) c.in-Err.ensures.why
