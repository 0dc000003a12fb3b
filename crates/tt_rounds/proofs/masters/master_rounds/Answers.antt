use Rattle.std.proofs.Common.{◌≡◌, ◌∙◌, Ok, Err, arith, subst}
use Rattle.std.proofs.lemmas.Result.{err_from_is_err_and}
use Rattle.tt_rounds.specs.Turns.{TakesTurn}
use Rattle.tt_rounds.proofs.Failing.{not_failed}
use Rattle.tt_rounds.proofs.Turns.{turns-more, counted-few}
use Rattle.tt_rounds.proofs.masters.master_rounds.Goals as goal

pub returns-in_err-master_turn-clause-course : goal.returns-in_err-master_turn-clause-course
returns-in_err-master_turn-clause-course g c =
    let p = err_from_is_err_and c.from_residual.result c.from_residual.ensures.1 in
    let e : c.from_residual.result ≡ Err c.in_err-master_turn.field-0.0 = cc (p.1, p.2) in
    rw e (
      c.loop.counter,
      c.loop.link,
      c.loop.master,
      c.loop.played,
      omega arith,
      c.loop.invariant.course,
      subst (λ act. TakesTurn g.R.Reference.gives g.L.Link.does act c.loop.link c.loop.master (Err c.in_err-master_turn.field-0.0) c.master_turn.new.link c.master_turn.new.master) c.act_for.ensures c.in_err-master_turn.ensures.course,
    )

pub loop-preserved : goal.loop-preserved
loop-preserved g c = record {
  course = turns-more g.R.Reference.gives g.L.Link.does c.args.acts.now c.loop.counter c.args.link.now c.loop.link c.master_turn.new.link c.args.master.now c.loop.master c.master_turn.new.master c.loop.played c.count_act-played.result c.in_ok-master_turn.field-0
      c.loop.invariant.course
      (subst (λ act. TakesTurn g.R.Reference.gives g.L.Link.does act c.loop.link c.loop.master (Ok c.in_ok-master_turn.field-0) c.master_turn.new.link c.master_turn.new.master) c.act_for.ensures c.in_ok-master_turn.ensures.course)
      c.count_act-played.ensures;
  few = let few = counted-few c.loop.played c.loop.counter c.in_ok-master_turn.field-0 c.loop.invariant.few in omega (arith, few, c.count_act-played.ensures);
  link = not_failed _ _ _ _ c.in_ok-master_turn.ensures.link_fails ∙ c.loop.invariant.link;
  reference = not_failed _ _ _ _ c.in_ok-master_turn.ensures.reference_fails ∙ c.loop.invariant.reference;
}
