-- What is kept of the packets from each source is taken.
use Rattle.std.proofs.Common.{arith}
use Rattle.std.proofs.lemmas.List.FromFn.{fill_by_all}
use Rattle.tt_telemetry.specs.Status.{no_seals, seals_at, seals_of}
use Rattle.tt_server.proofs.rounds.seals_by.Goals as goal

pub returns : goal.returns
unfolding seals_of
returns g c = record {
  value = fill_by_all (seals_at c.args.link.now.hearing.table.openings) c.loop-source.seals 16 no_seals c.loop-source.invariant.long
      (λ k lt. c.loop-source.invariant.made k (omega (arith, lt, c.loop-source-test.false)));
}
