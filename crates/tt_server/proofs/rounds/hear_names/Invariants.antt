-- The daemon and the wire stay, what is shown, and why the machine is broken.
use Rattle.std.proofs.Common.{◌≡◌}
use Rattle.tt_server.proofs.rounds.hear_names.Given as goal

abbrev pub invariant-loop-source : goal.invariant-loop-source
invariant-loop-source g l =
    record {
      same : l.poller.daemon ≡ l.fn.poller.daemon;
      wire : l.poller.polled.link.hearing.wire ≡ l.fn.poller.polled.link.hearing.wire;
      shown : l.poller.shown ≡ l.fn.poller.shown;
      broken : l.poller.broken ≡ l.fn.poller.broken;
    }
