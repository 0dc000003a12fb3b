use Rattle.std.proofs.Common.{sym, ◌∙◌}
use Rattle.tt_daemon.proofs.Following.{follows-take}
use Rattle.tt_daemon.proofs.daemons.Daemon.take.Goals as goal

pub invariant_of-self-in-Some : goal.invariant_of-self-in-Some
invariant_of-self-in-Some c =
    follows-take c.self.inside.config c.self.inside.table c.take.new.self c.self.inside.ends c.take_up.new.ends c.args.i c.args.clock c.args.bytes.now c.in-Some.statement
    c.in_ok-take.ensures.taken c.self.invariant.0 c.self.invariant.1 c.sources.ensures.valid c.take_up.ensures.value c.take_up.ensures.valid
    (sym c.statement.ensures.value ∙ c.in-Some.is)
