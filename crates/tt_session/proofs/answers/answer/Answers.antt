use Rattle.std.proofs.Common.{◌≡◌, Ok, Err, refl}
use Rattle.std.proofs.lemmas.Bool.{false≢true}
use Rattle.tt_publish.specs.Reading.{HasPassed, IsToCome}
use Rattle.tt_session.specs.Answers.{Says}
use Rattle.tt_session.specs.declared.replies.LineReply.TheVariants.{Now}
use Rattle.tt_session.proofs.Releasing.{reads}
use Rattle.tt_session.proofs.answers.answer.Goals as goal

pub returns-in-Ok : goal.returns-in-Ok
returns-in-Ok g c =
    rw c.in-Now.is (reads g.S.Service.allows _ _ (λ reading reply. reply ≡ Now reading) (Ok c.in-Ok.reading) c.args.last.now _ c.in-Ok.ensures refl)

pub returns-in-Err : goal.returns-in-Err
returns-in-Err g c =
    rw c.in-Now.is (reads g.S.Service.allows _ _ (λ reading reply. reply ≡ Now reading) (Err c.in-Err.fault) c.args.last.now _ c.in-Err.ensures refl)

pub returns-then-after : goal.returns-then-after
returns-then-after g c =
    rw c.in-After.is (reads g.S.Service.allows _ _ (λ reading reply. Says (HasPassed reading c.in-After.time) reply) (Ok c.in-Ok-now.reading) c.args.last.now _ c.in-Ok-now.ensures (c.after.ensures.0 c.if-after.true))

pub returns-else-after : goal.returns-else-after
returns-else-after g c =
    rw c.in-After.is (reads g.S.Service.allows _ _ (λ reading reply. Says (HasPassed reading c.in-After.time) reply) (Ok c.in-Ok-now.reading) c.args.last.now _ c.in-Ok-now.ensures (λ holds. false≢true (c.if-after.ensures.1 holds)))

pub returns-in-Err-now : goal.returns-in-Err-now
returns-in-Err-now g c =
    rw c.in-After.is (reads g.S.Service.allows _ _ (λ reading reply. Says (HasPassed reading c.in-After.time) reply) (Err c.in-Err-now.fault) c.args.last.now _ c.in-Err-now.ensures refl)

pub returns-then-before : goal.returns-then-before
returns-then-before g c =
    rw c.in-Before.is (reads g.S.Service.allows _ _ (λ reading reply. Says (IsToCome reading c.in-Before.time) reply) (Ok c.in-Ok-now-2.reading) c.args.last.now _ c.in-Ok-now-2.ensures (c.before-in-Ok-now-2.ensures.0 c.if-before.true))

pub returns-else-before : goal.returns-else-before
returns-else-before g c =
    rw c.in-Before.is (reads g.S.Service.allows _ _ (λ reading reply. Says (IsToCome reading c.in-Before.time) reply) (Ok c.in-Ok-now-2.reading) c.args.last.now _ c.in-Ok-now-2.ensures (λ holds. false≢true (c.if-before.ensures.1 holds)))

pub returns-in-Err-now-2 : goal.returns-in-Err-now-2
returns-in-Err-now-2 g c =
    rw c.in-Before.is (reads g.S.Service.allows _ _ (λ reading reply. Says (IsToCome reading c.in-Before.time) reply) (Err c.in-Err-now-2.fault) c.args.last.now _ c.in-Err-now-2.ensures refl)
