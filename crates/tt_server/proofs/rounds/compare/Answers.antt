-- They are unmet exactly if something is found of them.
use Rattle.std.proofs.Common.{refl}
use Rattle.tt_server.proofs.Ending.{compared-met, compared-unmet}
use Rattle.tt_server.proofs.rounds.compare.Goals as goal

pub returns-in_default-clause-broken : goal.returns-in_default-clause-broken
returns-in_default-clause-broken g c = compared-met _ _ _ _ _ _ _ c.drift-drift.ensures.value c.in_default.ensures.told refl

pub returns-clause-broken : goal.returns-clause-broken
returns-clause-broken g c = compared-unmet _ _ _ _ _ _ _ _ _ c.drift-drift.ensures.value c.in-Some.ensures.told c.event_of_unmet.ensures c.break_off.ensures.broken
