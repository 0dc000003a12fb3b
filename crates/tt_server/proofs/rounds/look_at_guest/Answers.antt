use Rattle.std.proofs.Common.{inl, inr, refl}
use Rattle.tt_server.proofs.rounds.look_at_guest.Goals as goal

pub returns-in_default-clause-broken : goal.returns-in_default-clause-broken
returns-in_default-clause-broken g c = inr refl

pub returns-then-not-look-clause-broken : goal.returns-then-not-look-clause-broken
returns-then-not-look-clause-broken g c = inr refl

pub returns-clause-broken : goal.returns-clause-broken
returns-clause-broken g c = inl c.break_off.ensures.broken
