use Rattle.std.proofs.Common.{[], ◌∷◌, length, ap, arith}
use Rattle.tt_live.proofs.Answering.{AreNumbers-one}
use Rattle.tt_live.proofs.replies.only_number.Goals as goal

pub returns-in_default : goal.returns-in_default
returns-in_default c = λ n fits. c.in_default.ensures.read (n ∷ []) (AreNumbers-one n fits)

pub returns-in_default-as_slice-2 : goal.returns-in_default-as_slice-2
returns-in_default-as_slice-2 c = λ n fits is.
    let same = c.in-Some.ensures.read.only (n ∷ []) (AreNumbers-one n fits) is in
    omega (arith, ap length same, ap length c.as_slice.ensures.value)
