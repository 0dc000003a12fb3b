-- The numbers of the refusals.
use Rattle.std.specs.Prelude.{ℕ}
use Rattle.tt_source.specs.declared.faults.SourceFault.{SourceFault}
use Rattle.tt_source.specs.declared.faults.SourceFault.TheVariants.{NoSource, ClockBack, NoncesUsedUp, BadMessage, NotMine, OtherEpoch, NotOutstanding}

-- the number of each refusal
abbrev pub number_of : SourceFault → ℕ
number_of NoSource = 401
number_of ClockBack = 402
number_of NoncesUsedUp = 403
number_of BadMessage = 404
number_of NotMine = 405
number_of OtherEpoch = 407
number_of NotOutstanding = 406
