use Rattle.std.proofs.Common.{◌≡◌, ◌+◌, ◌∙◌, Ok, Err, rules, tests, arith, refl, sym, ap, subst}
use Rattle.tt_rounds.specs.Fusing.{Grows, fusions_in}
use Rattle.tt_rounds.specs.Course.{round_of}
use Rattle.tt_rounds.specs.Tallies.{refused_in, counted_in}
use Rattle.tt_rounds.specs.Making.{stand_of}
use Rattle.tt_rounds.specs.Reports.{Reports, round_events, told_by}
use Rattle.std.proofs.lemmas.Result.{err_from_is_err_and}
use Rattle.std.proofs.lemmas.Grind.{common_steps}
use Rattle.tt_rounds.proofs.Failing.{not_failed}
use Rattle.tt_rounds.proofs.Leading.{Reports-more, rounds-none, rounds-all}
use Rattle.tt_rounds.proofs.Fusings.{Grows-none, Grows-then}
use Rattle.tt_rounds.proofs.Scheduling.{Lets-more}
use Rattle.tt_rounds.proofs.rounds.scheduled_rounds.Goals as goal

pub loop-init : goal.loop-init
loop-init g c = record {
  course = rounds-none g.C.Clock.gives g.L.Link.does _ _ _ _ _ _ _ c.requires.tally;
  last = c.requires.last;
  scheduled = refl;
  grew = subst (λ n. Grows c.args.teller.now.items c.args.teller.now.items 0 n) (sym c.requires.published) (Grows-none c.args.teller.now.items 0);
  link = refl;
  clock = refl;
  turns = refl;
  done = c.requires.done;
  source = refl;
  whole = c.requires.refused ∙ sym (ap refused_in c.requires.tally);
  polls = omega (arith, ap (λ t. t.polls) c.requires.tally);
  few = omega (arith, ap counted_in c.requires.tally);
  fewer = omega (arith, c.requires.published);
}

pub returns-in_err-round-clause-course : goal.returns-in_err-round-clause-course
returns-in_err-round-clause-course g c =
    let p = err_from_is_err_and c.from_residual.result c.from_residual.ensures.1 in
    let e : c.from_residual.result ≡ Err c.in_err-round.field-0.0 = cc (p.1, p.2) in
    rw e (
      c.loop.counter + 1,
      rounds-all g.C.Clock.gives g.L.Link.does (c.loop.counter + 1) (c.loop.counter + 1) _ _ _ _ _ _ _ _ _ _ refl
          (Reports-more g.C.Clock.gives g.L.Link.does _ _ _ _ _ _ _ _ _ _ _ _ _ _ _ _ c.loop.invariant.course (subst (λ n. Reports g.C.Clock.gives g.L.Link.does (round_of n) (round_events n) c.loop.clock c.round.new.clock c.loop.link c.round.new.link (stand_of c.loop.daemon (fusions_in c.loop.teller.items) c.loop.progress.counts.tally) (stand_of c.round.new.daemon (fusions_in c.round.new.teller.items) c.round.new.progress.counts.tally) (Err c.in_err-round.field-0.0) (told_by c.loop.progress.report) (told_by c.round.new.progress.report)) c.loop.invariant.turns
          (subst (λ d. Reports g.C.Clock.gives g.L.Link.does (round_of c.loop.progress.turns) (round_events c.loop.progress.turns) c.loop.clock c.round.new.clock c.loop.link c.round.new.link (stand_of d (fusions_in c.loop.teller.items) c.loop.progress.counts.tally) (stand_of c.round.new.daemon (fusions_in c.round.new.teller.items) c.round.new.progress.counts.tally) (Err c.in_err-round.field-0.0) (told_by c.loop.progress.report) (told_by c.round.new.progress.report)) c.goes_on.ensures.same c.in_err-round.ensures.course))),
      tt,
      Lets-more g.P.Schedule.says _ _ _ _ _ _ c.loop.invariant.scheduled c.loop.invariant.done c.goes_on.ensures.said (search (rules, tests)),
    )

pub returns-in_err-round-clause-grew : goal.returns-in_err-round-clause-grew
returns-in_err-round-clause-grew g c = Grows-then _ _ _ _ _ _ c.loop.invariant.grew c.in_err-round.ensures.grew

pub loop-preserved : goal.loop-preserved
loop-preserved g c = record {
  course = Reports-more g.C.Clock.gives g.L.Link.does _ _ _ _ _ _ _ _ _ _ _ _ _ _ _ _ c.loop.invariant.course (subst (λ n. Reports g.C.Clock.gives g.L.Link.does (round_of n) (round_events n) c.loop.clock c.round.new.clock c.loop.link c.round.new.link (stand_of c.loop.daemon (fusions_in c.loop.teller.items) c.loop.progress.counts.tally) (stand_of c.round.new.daemon (fusions_in c.round.new.teller.items) c.round.new.progress.counts.tally) (Ok c.in_ok-round.field-0) (told_by c.loop.progress.report) (told_by c.round.new.progress.report)) c.loop.invariant.turns
      (subst (λ d. Reports g.C.Clock.gives g.L.Link.does (round_of c.loop.progress.turns) (round_events c.loop.progress.turns) c.loop.clock c.round.new.clock c.loop.link c.round.new.link (stand_of d (fusions_in c.loop.teller.items) c.loop.progress.counts.tally) (stand_of c.round.new.daemon (fusions_in c.round.new.teller.items) c.round.new.progress.counts.tally) (Ok c.in_ok-round.field-0) (told_by c.loop.progress.report) (told_by c.round.new.progress.report)) c.goes_on.ensures.same c.in_ok-round.ensures.course));
  last = c.in_ok-round.ensures.last;
  scheduled = Lets-more g.P.Schedule.says _ _ _ _ _ _ c.loop.invariant.scheduled c.loop.invariant.done c.goes_on.ensures.said (search (rules, tests));
  grew = Grows-then _ _ _ _ _ _ c.loop.invariant.grew c.in_ok-round.ensures.grew;
  link = not_failed _ _ _ _ c.in_ok-round.ensures.link_fails ∙ c.loop.invariant.link;
  clock = not_failed _ _ _ _ c.in_ok-round.ensures.clock_fails ∙ c.loop.invariant.clock;
  turns = c.in_ok-round.ensures.turns ∙ c.loop.invariant.turns;
  done = omega (arith, c.in_ok-round.ensures.done, c.loop.invariant.done);
  source = c.in_ok-round.ensures.source ∙ c.loop.invariant.source;
  whole = c.refused-progress.ensures;
  polls = omega (arith, c.in_ok-round.ensures.polls, c.loop.invariant.polls);
  few = grind (arith, common_steps, c.in_ok-round.ensures.few, c.loop.invariant.turns, c.loop.invariant.few);
  fewer = omega (arith, c.in_ok-round.ensures.fewer, c.loop.invariant.fewer);
}

pub returns-clause-course : goal.returns-clause-course
returns-clause-course g c = (c.loop.counter, rounds-all g.C.Clock.gives g.L.Link.does c.loop.counter c.loop.counter _ _ _ _ _ _ _ _ _ _ refl c.loop.invariant.course, c.loop.invariant.done, tt)

pub returns-in_err-round-clause-rounds_fault : goal.returns-in_err-round-clause-rounds_fault
returns-in_err-round-clause-rounds_fault g c =
    let p = err_from_is_err_and c.from_residual.result c.from_residual.ensures.1 in
    let e : c.from_residual.result ≡ Err c.in_err-round.field-0.0 = cc (p.1, p.2) in
    rw e c.in_err-round.ensures.rounds_fault

pub returns-then-not-goes_on-clause-course : goal.returns-then-not-goes_on-clause-course
returns-then-not-goes_on-clause-course g c =
    rw c.goes_on.ensures.same (c.loop.counter, rounds-all g.C.Clock.gives g.L.Link.does c.loop.counter c.loop.counter _ _ _ _ _ _ _ _ _ _ refl c.loop.invariant.course, c.loop.invariant.done, tt)
