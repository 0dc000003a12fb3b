-- The rounds so far were calls one after another, and their publications meet unless a break is only logged.
use Rattle.std.proofs.Common.{◌≡◌, [], map}
use Rattle.tt_publish.specs.Reading.{fused_span_of}
use Rattle.tt_server.specs.Break.{seen_in}
use Rattle.tt_server.specs.Round.{CallsInTurn, kept_with}
use Rattle.tt_server.proofs.Ending.{Stands}
use Rattle.tt_server.proofs.rounds.run_daemon.Given as goal

abbrev pub invariant-loop : goal.invariant-loop
invariant-loop g l =
    record {
      calls : CallsInTurn l.fn.poller.polled.link.hearing.wire (kept_with l.fn.poller.daemon []) (kept_with l.poller.daemon l.teller.items) l.fn.clock.last l.clock.last;
      source : l.teller.source ≡ l.fn.teller.source;
      wire : l.poller.polled.link.hearing.wire ≡ l.fn.poller.polled.link.hearing.wire;
      stands : Stands l.context.server.now.life.on_break l.context.server.now.life.config.drift (map fused_span_of l.teller.items) (seen_in l.poller.shown) l.poller.broken;
    }
