-- What is gone from the bytes is heard, and nothing is held.
use Rattle.std.proofs.Common.{◌≡◌, [], length}
use Rattle.tt_workers.specs.Worker.{Hears}
use Rattle.tt_workers.proofs.sessions.Session.feed.Given as goal

abbrev pub invariant-loop-rest : goal.invariant-loop-rest
invariant-loop-rest g l =
    record {
      none : l.self.held ≡ [];
      hears : Hears l.bytes l.rest l.fn.self l.fn.post l.self l.lent;
    }

abbrev pub decreases-loop-rest : goal.decreases-loop-rest
decreases-loop-rest g l = length l.rest
