use Rattle.std.proofs.Common.{inl, inr, refl}
use Rattle.tt_server.proofs.rounds.look_at_sleep.Goals as goal

pub returns-in_default-clause-broken : goal.returns-in_default-clause-broken
returns-in_default-clause-broken g c = inr refl

pub returns-clause-broken : goal.returns-clause-broken
returns-clause-broken g c = inl c.break_off.ensures.broken
