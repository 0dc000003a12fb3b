-- What is kept of the packets from the sources so far is taken.
use Rattle.std.proofs.Common.{◌≡◌, ℕ, ◌<◌, get_or, length}
use Rattle.tt_telemetry.specs.Status.{no_seals, seals_at}
use Rattle.tt_server.proofs.rounds.seals_by.Given as goal

abbrev pub invariant-loop-source : goal.invariant-loop-source
invariant-loop-source g l =
    record {
      made : (k : ℕ) → k < l.source → get_or l.seals k no_seals ≡ seals_at l.link.hearing.table.openings k;
      long : length l.seals ≡ 16;
    }
