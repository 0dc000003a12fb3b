use Rattle.std.proofs.Common.{◌≡◌, ◌+◌, ◌∙◌, Err, arith, refl}
use Rattle.std.proofs.lemmas.Result.{err_from_is_err_and}
use Rattle.tt_rounds.proofs.Failing.{not_failed}
use Rattle.tt_rounds.proofs.Leading.{Reports-none, Reports-more, Reports-ends_below}
use Rattle.tt_rounds.proofs.rounds.all_turns.Goals as goal

pub loop-init : goal.loop-init
loop-init g c = record {
  course = λ items. Reports-none g.C.Clock.gives g.L.Link.does _ _ _ _ _ _;
  link = refl;
  clock = refl;
  polls = refl;
  few = omega arith;
}

pub returns-in_err-turn-clause-course : goal.returns-in_err-turn-clause-course
returns-in_err-turn-clause-course g c = λ items.
    let p = err_from_is_err_and c.from_residual.result c.from_residual.ensures.1 in
    let e : c.from_residual.result ≡ Err c.in_err-turn.field-0.0 = cc (p.1, p.2) in
    rw e (Reports-ends_below g.C.Clock.gives g.L.Link.does (c.loop.counter + 1) _ _ _ _ _ _ _ _ _ _ _ _ (omega arith)
    (Reports-more g.C.Clock.gives g.L.Link.does _ _ _ _ _ _ _ _ _ _ _ _ _ _ _ _ (c.loop.invariant.course items) (c.in_err-turn.ensures.course items)))

pub loop-preserved : goal.loop-preserved
loop-preserved g c = record {
  course = λ items. Reports-more g.C.Clock.gives g.L.Link.does _ _ _ _ _ _ _ _ _ _ _ _ _ _ _ _ (c.loop.invariant.course items) (c.in_ok-turn.ensures.course items);
  link = not_failed _ _ _ _ c.in_ok-turn.ensures.link_fails ∙ c.loop.invariant.link;
  clock = not_failed _ _ _ _ c.in_ok-turn.ensures.clock_fails ∙ c.loop.invariant.clock;
  polls = c.in_ok-turn.ensures.polls ∙ c.loop.invariant.polls;
  few = omega (arith, c.in_ok-turn.ensures.few, c.loop.invariant.few);
}

pub returns-in_err-turn-clause-rounds_fault : goal.returns-in_err-turn-clause-rounds_fault
returns-in_err-turn-clause-rounds_fault g c =
    let p = err_from_is_err_and c.from_residual.result c.from_residual.ensures.1 in
    let e : c.from_residual.result ≡ Err c.in_err-turn.field-0.0 = cc (p.1, p.2) in
    rw e c.in_err-turn.ensures.rounds_fault
