-- The sources so far were polled, which was counted, and the link did not fail.
use Rattle.std.proofs.Common.{◌≡◌, ◌+◌, ◌≤◌, List, Ok}
use Rattle.tt_rounds.specs.Fusing.{Fusion}
use Rattle.tt_rounds.specs.Course.{each_below, poll_at}
use Rattle.tt_rounds.specs.Tallies.{counted_in}
use Rattle.tt_rounds.specs.Making.{stand_of}
use Rattle.tt_rounds.specs.Reports.{ReportsByLink, events_below, poll_events, told_by}
use Rattle.tt_rounds.proofs.rounds.poll_all.Given as goal

abbrev pub invariant-loop-source : goal.invariant-loop-source
invariant-loop-source g l =
    record {
      course : (items : List Fusion) → ReportsByLink g.L.Link.does (each_below l.source (poll_at l.clock)) (events_below l.source (poll_at l.clock) (poll_events l.clock)) l.initial.link l.link
          (stand_of l.initial.daemon items l.initial.tally) (stand_of l.daemon items l.tally) (Ok tt) (told_by l.initial.report) (told_by l.report);
      few : l.tally.polls ≤ l.initial.tally.polls + l.source;
      counted : counted_in l.tally ≡ counted_in l.initial.tally;
      sound : g.L.Link.failed l.link ≡ g.L.Link.failed l.initial.link;
    }
