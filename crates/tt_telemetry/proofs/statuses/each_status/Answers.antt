-- The status of each source is made.
use Rattle.std.proofs.Common.{arith}
use Rattle.std.proofs.lemmas.List.FromFn.{fill_by_all}
use Rattle.tt_telemetry.specs.Records.{tally_at}
use Rattle.tt_telemetry.specs.Status.{each_status, no_source_status, notice_at, source_status}
use Rattle.tt_telemetry.proofs.statuses.each_status.Goals as goal

pub returns : goal.returns
unfolding each_status
returns c = record {
  value = fill_by_all (λ k. source_status c.args.shown.now (tally_at c.args.each.now k) (notice_at c.args.notices.now c.args.unsent.now c.args.seals.now k) k c.args.now) c.loop-source.statuses 16 no_source_status c.loop-source.invariant.long
      (λ k lt. c.loop-source.invariant.made k (omega (arith, lt, c.loop-source-test.false)));
}
