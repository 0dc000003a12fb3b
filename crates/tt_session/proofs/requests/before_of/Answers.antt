use Rattle.std.proofs.Common.{[], ◌∷◌, length, ap, arith}
use Rattle.tt_text.proofs.Lines.{AreNumbers-alone}
use Rattle.tt_session.proofs.requests.before_of.Goals as goal

pub returns-in_default-clause-none : goal.returns-in_default-clause-none
returns-in_default-clause-none c = λ t fits. c.in_default.ensures.read (t ∷ []) (AreNumbers-alone t fits)

pub returns-in_default-as_slice-2-clause-none : goal.returns-in_default-as_slice-2-clause-none
returns-in_default-as_slice-2-clause-none c = λ t fits is.
    let same = c.in-Some.ensures.read.only (t ∷ []) (AreNumbers-alone t fits) is in
    omega (arith, ap length same, ap length c.as_slice.ensures.value)
