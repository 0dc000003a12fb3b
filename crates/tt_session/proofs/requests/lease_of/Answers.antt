use Rattle.std.proofs.Common.{[], ◌∷◌, length, ap, arith}
use Rattle.tt_session.proofs.Spelled.{AreNumbers-two}
use Rattle.tt_session.proofs.requests.lease_of.Goals as goal

pub returns-in_default-clause-none : goal.returns-in_default-clause-none
returns-in_default-clause-none c = λ m n first second. c.in_default.ensures.read (m ∷ n ∷ []) (AreNumbers-two m n first second)

pub returns-in_default-as_slice-clause-none : goal.returns-in_default-as_slice-clause-none
returns-in_default-as_slice-clause-none c = λ m n first second is.
    let same = c.in-Some.ensures.read.only (m ∷ n ∷ []) (AreNumbers-two m n first second) is in
    omega (arith, ap length same, ap length c.as_slice.ensures.value)

pub returns-in_default-as_slice-2-clause-none : goal.returns-in_default-as_slice-2-clause-none
returns-in_default-as_slice-2-clause-none c = λ m n first second is.
    let same = c.in-Some.ensures.read.only (m ∷ n ∷ []) (AreNumbers-two m n first second) is in
    omega (arith, ap length same, ap length c.as_slice.ensures.value)
