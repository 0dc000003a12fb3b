-- The packets to the sources so far are taken.
use Rattle.std.proofs.Common.{◌≡◌, ℕ, ◌<◌, get_or, length}
use Rattle.tt_rounds.specs.Awaiting.{unsent_at}
use Rattle.tt_server.proofs.rounds.unsent_by.Given as goal

abbrev pub invariant-loop-source : goal.invariant-loop-source
invariant-loop-source g l =
    record {
      made : (k : ℕ) → k < l.source → get_or l.unsent k 0 ≡ unsent_at l.link.hearing.table.unsent k;
      long : length l.unsent ≡ 16;
    }
