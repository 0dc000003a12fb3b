-- What was taken was written, or it was refused for a cause of its own.
use Rattle.std.proofs.Common.{Err, refl, subst}
use Rattle.tt_shared.specs.Writing.{TellerState}
use Rattle.tt_sharing.specs.Share.{CannotWrite}
use Rattle.tt_sharing.proofs.Closing.{cannot, same_open, on_err}
use Rattle.tt_sharing.proofs.sharing.Sharing.write.Goals as goal

pub returns-in_err-publish-clause-cause : goal.returns-in_err-publish-clause-cause
returns-in_err-publish-clause-cause g c = λ before e.
    let why : CannotWrite g.P.Place.does g.P.Place.failed c.args.span c.in_ok-teller.teller =
    cannot g.P.Place.does g.P.Place.failed c.args.span c.in_ok-teller.teller c.publish.new.self (Err c.in_err-publish.field-0.0)
    c.in_err-publish.ensures.broken.0 (λ is. (c.in_err-publish.ensures.used_up.0 is).1) (λ is. (c.in_err-publish.ensures.clock_back.0 is).2)
    c.in_err-publish.ensures.cause c.in_err-publish.ensures.never.0 c.in_err-publish.ensures.never.1 c.in_err-publish.ensures.never.2 in
    let same = same_open (g.O.Opener.opens c.args.self.now.opener) c.args.self.now.teller c.in_ok-teller.teller before c.in_ok-teller.ensures.opened e in
    on_err (CannotWrite g.P.Place.does g.P.Place.failed c.args.span before) c.from_residual-in_err-publish.result
    (subst (λ (t : TellerState g.row.P.Denot). CannotWrite g.P.Place.does g.P.Place.failed c.args.span t) same why)

pub returns-clause-written : goal.returns-clause-written
returns-clause-written g c = (
  c.in_ok-teller.teller,
  c.publish.new.self,
  c.in_ok-teller.ensures.opened,
  record { published = c.in_ok-publish.ensures.published; counted = c.in_ok-publish.ensures.counted.0; usable = c.in_ok-publish.ensures.counted.1 },
  rw c.take.ensures.taken refl,
)
