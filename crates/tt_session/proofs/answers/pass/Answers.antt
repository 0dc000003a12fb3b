use Rattle.std.proofs.Common.{Bool, Ok, subst}
use Rattle.tt_session.specs.declared.calls.Call.TheVariants.{Pass}
use Rattle.tt_session.proofs.Releasing.{one_more_no, passes_yes, passes_refused}
use Rattle.tt_session.proofs.answers.pass.Goals as goal

pub returns-in-Ok-true : goal.returns-in-Ok-true
returns-in-Ok-true g c =
    let allows = g.S.Service.allows in
    let yes = subst (λ (b : Bool). allows c.loop.service (Pass c.args.number (Ok b)) c.pass.new.self) c.in-Ok-true.field-0-test c.in-Ok-true.ensures in
    passes_yes allows _ _ _ c.args.waits c.args.number c.loop.counter c.loop-test.true c.loop.invariant yes

pub returns-in-Err : goal.returns-in-Err
returns-in-Err g c =
    passes_refused g.S.Service.allows _ _ _ c.args.waits c.args.number c.loop.counter c.in-Err.fault c.loop-test.true c.loop.invariant c.in-Err.ensures

pub loop-preserved : goal.loop-preserved
loop-preserved g c =
    let allows = g.S.Service.allows in
    let no = subst (λ (b : Bool). allows c.loop.service (Pass c.args.number (Ok b)) c.pass.new.self) c.in-Ok-false.field-0-test c.in-Ok-false.ensures in
    one_more_no allows _ _ _ c.args.number c.loop.counter c.loop.invariant no
