-- Each time the clock showed one before the deadline, and the device took nothing.
use Rattle.std.proofs.Common.{◌≡◌}
use Rattle.std.specs.Io.KnownBytes.{Keeps}
use Rattle.tt_session.specs.Deadline.{ShowsBefore}
use Rattle.tt_session.proofs.deadlines.write_before.Given as goal

abbrev pub invariant-loop : goal.invariant-loop
invariant-loop g l =
    record {
      shows : ShowsBefore g.C.Clock.gives l.fn.deadline.at l.initial.clock l.counter l.clock;
      keeps : Keeps (g.D.TimedWriter.taken l.initial.device) (g.D.TimedWriter.taken l.device);
      sound : g.D.TimedWriter.failed l.device ≡ g.D.TimedWriter.failed l.initial.device;
    }
