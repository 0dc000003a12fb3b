-- The turns so far were taken, and no device failed.
use Rattle.std.proofs.Common.{◌≡◌, ◌+◌, ◌≤◌, List, Ok}
use Rattle.tt_rounds.specs.Fusing.{Fusion}
use Rattle.tt_rounds.specs.Course.{each_below, turn}
use Rattle.tt_rounds.specs.Tallies.{counted_in}
use Rattle.tt_rounds.specs.Making.{stand_of}
use Rattle.tt_rounds.specs.Reports.{Reports, events_below, turn_events, told_by}
use Rattle.tt_rounds.proofs.rounds.all_turns.Given as goal

abbrev pub invariant-loop : goal.invariant-loop
invariant-loop g l =
    record {
      course : (items : List Fusion) → Reports g.C.Clock.gives g.L.Link.does (each_below l.counter (λ _. turn)) (events_below l.counter (λ _. turn) (λ _. turn_events)) l.initial.clock l.clock l.initial.link l.link
          (stand_of l.initial.daemon items l.initial.tally) (stand_of l.daemon items l.tally) (Ok tt) (told_by l.initial.report) (told_by l.report);
      link : g.L.Link.failed l.link ≡ g.L.Link.failed l.initial.link;
      clock : g.C.Clock.failed l.clock ≡ g.C.Clock.failed l.initial.clock;
      polls : l.tally.polls ≡ l.initial.tally.polls;
      few : counted_in l.tally ≤ counted_in l.initial.tally + l.counter;
    }
