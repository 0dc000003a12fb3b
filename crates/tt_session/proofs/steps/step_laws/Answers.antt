use Rattle.tt_session.proofs.Following.{Stands-first, Stands-more}
use Rattle.tt_session.proofs.steps.step_laws.Goals as goal

pub returns-clause-first : goal.returns-clause-first
returns-clause-first g c = λ service waits. Stands-first g.S.Service.allows waits service

pub returns-clause-more : goal.returns-clause-more
returns-clause-more g c = λ waits. Stands-more g.S.Service.allows waits
