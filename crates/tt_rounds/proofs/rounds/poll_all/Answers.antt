use Rattle.std.proofs.Common.{◌≡◌, ◌+◌, Err, arith, refl, ◌∙◌, ap}
use Rattle.std.proofs.lemmas.Result.{err_from_is_err_and}
use Rattle.tt_rounds.proofs.Failing.{not_failed}
use Rattle.tt_rounds.proofs.Leading.{polls-none, polls-more, polls-all, polls-ended}
use Rattle.tt_rounds.proofs.rounds.poll_all.Goals as goal

pub loop-source-init : goal.loop-source-init
loop-source-init g c = record { course = λ items. polls-none g.L.Link.does _ _ _ _; few = omega arith; counted = refl; sound = refl }

pub returns-in_err-poll_one-clause-no_clock : goal.returns-in_err-poll_one-clause-no_clock
returns-in_err-poll_one-clause-no_clock g c =
    let p = err_from_is_err_and c.from_residual.result c.from_residual.ensures.1 in
    let e : c.from_residual.result ≡ Err c.in_err-poll_one.field-0.0 = cc (p.1, p.2) in
    rw e c.in_err-poll_one.ensures.no_clock

pub returns-in_err-poll_one-clause-course : goal.returns-in_err-poll_one-clause-course
returns-in_err-poll_one-clause-course g c = λ items.
    let p = err_from_is_err_and c.from_residual.result c.from_residual.ensures.1 in
    let e : c.from_residual.result ≡ Err c.in_err-poll_one.field-0.0 = cc (p.1, p.2) in
    rw e (polls-ended g.L.Link.does (c.loop-source.source + 1) _ _ _ _ items _ _ _ _ _ (omega (arith, c.sources-source-end.ensures.value, ap (λ config. config.sources) c.config.ensures.value))
    (polls-more g.L.Link.does _ _ _ _ _ _ _ _ _ _ _ _ (c.loop-source.invariant.course items) (c.in_err-poll_one.ensures.course items)))

pub loop-source-preserved : goal.loop-source-preserved
loop-source-preserved g c = record {
  course = λ items. polls-more g.L.Link.does _ _ _ _ _ _ _ _ _ _ _ _ (c.loop-source.invariant.course items) (c.in_ok-poll_one.ensures.course items);
  few = omega (arith, c.in_ok-poll_one.ensures.few, c.loop-source.invariant.few);
  counted = c.in_ok-poll_one.ensures.counted ∙ c.loop-source.invariant.counted;
  sound = not_failed _ _ _ _ c.in_ok-poll_one.ensures.fails ∙ c.loop-source.invariant.sound;
}

pub returns-clause-course : goal.returns-clause-course
returns-clause-course g c = λ items.
    polls-all g.L.Link.does c.loop-source.source _ _ _ _ items _ _ _ _ _ (omega (arith, c.sources-source-end.ensures.value, ap (λ config. config.sources) c.config.ensures.value))
    (c.loop-source.invariant.course items)

pub returns-in_err-poll_one-clause-rounds_fault : goal.returns-in_err-poll_one-clause-rounds_fault
returns-in_err-poll_one-clause-rounds_fault g c =
    let p = err_from_is_err_and c.from_residual.result c.from_residual.ensures.1 in
    let e : c.from_residual.result ≡ Err c.in_err-poll_one.field-0.0 = cc (p.1, p.2) in
    rw e c.in_err-poll_one.ensures.rounds_fault
