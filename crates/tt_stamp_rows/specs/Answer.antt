-- What a stamper answers.
use Rattle.std.specs.Prelude.{ℕ, Result, Ok, Err}
use Rattle.tt_stamp.specs.declared.faults.StampFault.{StampFault}
use Rattle.tt_stamp.specs.Fault.{number_of}
use Rattle.tt_stamp_rows.specs.declared.answers.Answer.{Answer}
use Rattle.tt_stamp_rows.specs.declared.answers.Answer.TheVariants.{Stamp, Refused}

-- the stamp, or the number of the refusal
abbrev pub answer_by : Result ℕ StampFault → Answer
answer_by (Ok stamp) = Stamp stamp
answer_by (Err fault) = Refused (number_of fault)
