use Rattle.tt_server.proofs.rounds.look_at_host.Goals as goal

pub returns-clause-broken : goal.returns-clause-broken
returns-clause-broken g c = (c.look_at_sleep.new.poller.broken, c.look_at_sleep.ensures.broken, c.look_at_guest.ensures.broken)
