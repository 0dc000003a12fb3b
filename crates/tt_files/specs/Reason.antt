-- Why a call failed.
use Rattle.std.specs.Prelude.{ℕ, ℤ, pos, Option, Some, None}
use Rattle.std.specs.declared.io.ErrorKind.{ErrorKind}
use Rattle.std.specs.declared.io.ErrorKind.TheVariants.{NotFound, InvalidInput}
use Rattle.tt_files.specs.declared.reasons.Reason.{Reason}
use Rattle.tt_files.specs.declared.reasons.Reason.TheVariants.{System, NotRegular, Other}

-- the reason in an error that has no number: nothing is there, or what is there is not a regular file
abbrev pub reason_of_kind : ErrorKind → Reason
reason_of_kind NotFound = System (pos 2)
reason_of_kind InvalidInput = NotRegular
reason_of_kind _ = Other

-- the reason in an error with the system's number, or with none
abbrev pub reason_of : Option ℤ → ErrorKind → Reason
reason_of (Some number) kind = System number
reason_of None kind = reason_of_kind kind

-- the system's number, and 0 where there is none
abbrev pub number_in : Reason → ℕ
number_in (System (pos number)) = number
number_in _ = 0
