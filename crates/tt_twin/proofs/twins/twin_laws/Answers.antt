use Rattle.tt_twin.proofs.Worth.Reached.{reached}
use Rattle.tt_twin.proofs.Worth.Refusing.{wrong-machines, not-a-reading, is-cut, is-uncut}
use Rattle.tt_twin.proofs.twins.twin_laws.Goals as goal

pub returns-clause-machines : goal.returns-clause-machines
returns-clause-machines c = wrong-machines

pub returns-clause-not_a_reading : goal.returns-clause-not_a_reading
returns-clause-not_a_reading c = not-a-reading

pub returns-clause-cut : goal.returns-clause-cut
returns-clause-cut c = is-cut

pub returns-clause-answered : goal.returns-clause-answered
returns-clause-answered c = λ configs events twin k side h. is-uncut configs events k side twin h

pub returns-clause-twin : goal.returns-clause-twin
returns-clause-twin c = λ configs events twin k side valid is m number reading r. (reached configs events k side m number reading twin valid r is).worthy

pub returns-clause-no_narrower : goal.returns-clause-no_narrower
returns-clause-no_narrower c = λ configs events twin k side valid is m number reading span r right. (reached configs events k side m number reading twin valid r is).wide span right
