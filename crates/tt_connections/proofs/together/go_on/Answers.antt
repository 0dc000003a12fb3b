use Rattle.std.proofs.Common.{◌<◌, length, take, subst, arith, ◌∙◌}
use Rattle.std.specs.Io.KnownBytes.{Appends}
use Rattle.tt_session.proofs.Hearing.{on_err}
use Rattle.tt_connections.proofs.Gathering.{step-part, step-few, step-some, own_text, steps-cut}
use Rattle.tt_connections.proofs.together.go_on.Goals as goal

pub returns-in_err-hand_over-clause-part : goal.returns-in_err-hand_over-clause-part
returns-in_err-hand_over-clause-part g c =
    step-part g.S.Service.allows c.args.waits _ _ _ _ _ _ _ c.requires.part c.step-step.ensures.steps.steps

pub returns-in_err-hand_over-clause-more : goal.returns-in_err-hand_over-clause-more
returns-in_err-hand_over-clause-more g c =
    omega (arith, c.step-step.ensures.taken, step-few g.S.Service.allows c.args.waits _ _ _ _ c.args.bytes.now _ c.step-step.result.taken _ c.requires.part c.step-step.ensures.steps.steps)

pub returns-in_err-hand_over-clause-err : goal.returns-in_err-hand_over-clause-err
returns-in_err-hand_over-clause-err g c =
    let steps = c.step-step.ensures.steps in
    let is = c.deref.ensures.0 ∙ own_text g.S.Service.allows c.args.waits _ _ _ _ _ _ _ _ c.clear.ensures steps in
    let (n, written) = c.in_err-hand_over.ensures.err in
    on_err c.from_residual.result
    (steps-cut g.S.Service.allows c.args.waits _ _ _ _ _ _ c.args.bytes.now steps.text c.step-step.result.taken n _ steps.steps
    (subst (λ l. 0 < length l) is c.in_err-hand_over.ensures.some)
    (subst (λ l. Appends (g.W.ByteWriter.taken c.args.writer.now) (g.W.ByteWriter.taken c.hand_over.new.writer) (take n l)) is written))

pub returns-clause-part : goal.returns-clause-part
returns-clause-part g c =
    step-part g.S.Service.allows c.args.waits _ _ _ _ _ _ _ c.requires.part c.step-step.ensures.steps.steps

pub returns-clause-some : goal.returns-clause-some
returns-clause-some g c =
    step-some g.S.Service.allows c.args.waits _ _ _ _ c.args.bytes.now _ _ c.step-step.result.taken c.step-step.result.stop c.clear.ensures
    c.requires.some c.requires.part c.requires.room c.step-step.ensures.steps c.step-step.ensures.stop

pub returns-clause-few : goal.returns-clause-few
returns-clause-few g c =
    step-few g.S.Service.allows c.args.waits _ _ _ _ c.args.bytes.now _ c.step-step.result.taken _ c.requires.part c.step-step.ensures.steps.steps

pub returns-clause-more : goal.returns-clause-more
returns-clause-more g c =
    omega (arith, c.step-step.ensures.taken, step-few g.S.Service.allows c.args.waits _ _ _ _ c.args.bytes.now _ c.step-step.result.taken _ c.requires.part c.step-step.ensures.steps.steps)

pub returns-clause-ok : goal.returns-clause-ok
returns-clause-ok g c =
    let steps = c.step-step.ensures.steps in
    let is = c.deref.ensures.0 ∙ own_text g.S.Service.allows c.args.waits _ _ _ _ _ _ _ _ c.clear.ensures steps in
    record {
      text = steps.text;
      is_commit = _;
      steps = steps.steps;
      written = subst (λ l. Appends (g.W.ByteWriter.taken c.args.writer.now) (g.W.ByteWriter.taken c.hand_over.new.writer) l) is c.in_ok-hand_over.ensures.ok;
    }
