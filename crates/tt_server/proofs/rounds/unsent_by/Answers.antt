-- The packets to each source are taken.
use Rattle.std.proofs.Common.{arith}
use Rattle.std.proofs.lemmas.List.FromFn.{fill_by_all}
use Rattle.tt_rounds.specs.Awaiting.{unsent_at}
use Rattle.tt_telemetry.specs.Status.{unsent_of}
use Rattle.tt_server.proofs.rounds.unsent_by.Goals as goal

pub returns : goal.returns
unfolding unsent_of
returns g c = record {
  value = fill_by_all (unsent_at c.args.link.now.hearing.table.unsent) c.loop-source.unsent 16 0 c.loop-source.invariant.long
      (λ k lt. c.loop-source.invariant.made k (omega (arith, lt, c.loop-source-test.false)));
}
