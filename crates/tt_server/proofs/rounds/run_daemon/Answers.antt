-- Each round is one more call.
use Rattle.std.proofs.Common.{refl, rules, tests, ◌∙◌}
use Rattle.tt_server.proofs.Calls.{calls-later, no-calls, one-more}
use Rattle.tt_server.proofs.Ending.{begun-so, ends-so, goes-so}
use Rattle.tt_server.proofs.rounds.run_daemon.Goals as goal

pub loop-init : goal.loop-init
loop-init g c = record {
  calls = rw c.look_at_slewed.ensures.same (rw c.look_at_host.ensures.same (rw c.requires.nothing (no-calls _ _ _ _ c.now_of-began.ensures.rises)));
  source = refl;
  wire = c.look_at_slewed.ensures.wire ∙ c.look_at_host.ensures.wire;
  stands = begun-so _ _ _ _ _ _ _ _ c.requires.nothing c.requires.none_shown c.requires.unbroken (c.look_at_slewed.ensures.shown ∙ c.look_at_host.ensures.shown) c.look_at_slewed.ensures.broken c.look_at_host.ensures.broken;
}

pub loop-preserved : goal.loop-preserved
loop-preserved g c = record {
  calls = rw c.renew.ensures.same (one-more _ _ _ _ _ _ _ _ c.loop.invariant.wire c.loop.invariant.calls c.go_round.ensures.heard);
  source = c.go_round.ensures.source ∙ c.loop.invariant.source;
  wire = c.renew.ensures.wire ∙ c.go_round.ensures.wire ∙ c.loop.invariant.wire;
  stands = goes-so _ _ _ _ _ _ _ _ _ _ c.loop.invariant.stands c.go_round.ensures.breaks c.renew.ensures.shown c.renew.ensures.broken (search (rules, tests));
}

pub returns-then-is_some-clause-calls : goal.returns-then-is_some-clause-calls
returns-then-is_some-clause-calls g c = rw c.end.ensures.same (calls-later _ _ _ _ _ _ (one-more _ _ _ _ _ _ _ _ c.loop.invariant.wire c.loop.invariant.calls c.go_round.ensures.heard) c.end.ensures.rises)

pub returns-then-is_some-clause-wire : goal.returns-then-is_some-clause-wire
returns-then-is_some-clause-wire g c = c.end.ensures.wire ∙ c.go_round.ensures.wire ∙ c.loop.invariant.wire

pub returns-then-is_some-clause-breaks : goal.returns-then-is_some-clause-breaks
returns-then-is_some-clause-breaks g c = ends-so _ _ _ _ _ _ _ _ _ c.loop.invariant.stands c.go_round.ensures.breaks c.end.ensures.broken
