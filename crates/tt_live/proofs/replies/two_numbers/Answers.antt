use Rattle.std.proofs.Common.{[], ◌∷◌, length, ap, arith}
use Rattle.tt_live.proofs.Answering.{AreNumbers-two}
use Rattle.tt_live.proofs.replies.two_numbers.Goals as goal

pub returns-in_default : goal.returns-in_default
returns-in_default c = λ m n first second. c.in_default.ensures.read (m ∷ n ∷ []) (AreNumbers-two m n first second)

pub returns-in_default-as_slice : goal.returns-in_default-as_slice
returns-in_default-as_slice c = λ m n first second is.
    let same = c.in-Some.ensures.read.only (m ∷ n ∷ []) (AreNumbers-two m n first second) is in
    omega (arith, ap length same, ap length c.as_slice.ensures.value)

pub returns-in_default-as_slice-2 : goal.returns-in_default-as_slice-2
returns-in_default-as_slice-2 c = λ m n first second is.
    let same = c.in-Some.ensures.read.only (m ∷ n ∷ []) (AreNumbers-two m n first second) is in
    omega (arith, ap length same, ap length c.as_slice.ensures.value)
