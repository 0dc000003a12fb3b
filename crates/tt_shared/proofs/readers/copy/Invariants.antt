-- Each try so far met another publication.
use Rattle.tt_shared.specs.Looking.{Meets}
use Rattle.tt_shared.proofs.readers.copy.Given as goal

abbrev pub invariant-loop : goal.invariant-loop
invariant-loop g l = Meets g.P.ReadPlace.looks l.counter l.initial.place l.place
