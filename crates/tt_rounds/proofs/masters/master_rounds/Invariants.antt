-- So many turns were taken, at most one act was done in each, and no device failed.
use Rattle.std.proofs.Common.{◌≡◌, ◌≤◌}
use Rattle.tt_rounds.specs.Turns.{TakesTurns}
use Rattle.tt_rounds.proofs.masters.master_rounds.Given as goal

abbrev pub invariant-loop : goal.invariant-loop
invariant-loop g l =
    record {
      course : TakesTurns g.R.Reference.gives g.L.Link.does l.acts l.counter l.initial.link l.initial.master l.played l.link l.master;
      few : l.played ≤ l.counter;
      link : g.L.Link.failed l.link ≡ g.L.Link.failed l.initial.link;
      reference : g.R.Reference.failed l.master.reference ≡ g.R.Reference.failed l.initial.master.reference;
    }
