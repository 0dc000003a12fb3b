-- The schedule let the rounds so far begin, they were done, what is published grew by what they published, and no device failed.
use Rattle.std.proofs.Common.{◌≡◌, ◌+◌, ◌*◌, ◌≤◌, Ok}
use Rattle.tt_rounds.specs.Fusing.{fusions_in, Grows}
use Rattle.tt_rounds.specs.Course.{each_below, round_of}
use Rattle.tt_rounds.specs.Tallies.{no_tally, refused_in, counted_in}
use Rattle.tt_rounds.specs.Making.{stand_of}
use Rattle.tt_rounds.specs.Reports.{Reports, TellsLast, events_below, round_events, told_by}
use Rattle.tt_rounds.specs.Scheduling.{LetsBegin}
use Rattle.tt_rounds.proofs.rounds.scheduled_rounds.Given as goal

abbrev pub invariant-loop : goal.invariant-loop
invariant-loop g l =
    record {
      course : Reports g.C.Clock.gives g.L.Link.does (each_below l.counter (λ _. round_of l.initial.progress.turns)) (events_below l.counter (λ _. round_of l.initial.progress.turns) (λ _. round_events l.initial.progress.turns))
          l.initial.clock l.clock l.initial.link l.link
          (stand_of l.initial.daemon (fusions_in l.initial.teller.items) no_tally) (stand_of l.daemon (fusions_in l.teller.items) l.progress.counts.tally) (Ok tt) (told_by l.initial.progress.report) (told_by l.progress.report);
      last : TellsLast l.progress.report l.teller.items;
      scheduled : LetsBegin g.P.Schedule.says l.initial.schedule l.counter l.schedule;
      grew : Grows l.initial.teller.items l.teller.items 0 l.progress.counts.published;
      link : g.L.Link.failed l.link ≡ g.L.Link.failed l.initial.link;
      clock : g.C.Clock.failed l.clock ≡ g.C.Clock.failed l.initial.clock;
      turns : l.progress.turns ≡ l.initial.progress.turns;
      done : l.progress.counts.done ≡ l.counter;
      source : l.teller.source ≡ l.initial.teller.source;
      whole : l.progress.counts.refused ≡ refused_in l.progress.counts.tally;
      polls : l.progress.counts.tally.polls ≤ l.counter * 255;
      few : counted_in l.progress.counts.tally ≤ l.counter * (l.initial.progress.turns + 1);
      fewer : l.progress.counts.published ≤ l.counter;
    }
