-- The numbers of the refusals.
use Rattle.std.specs.Prelude.{ℕ}
use Rattle.tt_publish.specs.Fault.{read_number_of}
use Rattle.tt_stamp.specs.declared.faults.StampFault.{StampFault}
use Rattle.tt_stamp.specs.declared.faults.StampFault.TheVariants as stamp
use Rattle.tt_stamp.specs.declared.faults.BeginFault.{BeginFault}
use Rattle.tt_stamp.specs.declared.faults.BeginFault.TheVariants as begin
use Rattle.tt_stamp.specs.declared.faults.BookFault.{BookFault}
use Rattle.tt_stamp.specs.declared.faults.BookFault.TheVariants as book
use Rattle.tt_stamp.specs.declared.faults.ForgetFault.{ForgetFault}
use Rattle.tt_stamp.specs.declared.faults.ForgetFault.TheVariants as forget

-- the number of each refusal of a stamp
abbrev pub number_of : StampFault → ℕ
number_of stamp.UsedUp = 901
number_of stamp.FloorTooFar = 902
number_of stamp.LeaseOver = 903
number_of stamp.Seats = 904
number_of stamp.Memory = 1

-- the number of each refusal of a beginning: that of the reading, or of the stamp
abbrev pub begin_number_of : BeginFault → ℕ
begin_number_of (begin.Read fault) = read_number_of fault
begin_number_of (begin.Stamp fault) = number_of fault

-- the number of each refusal of a commit
abbrev pub book_number_of : BookFault → ℕ
book_number_of book.Full = 1001
book_number_of book.IdThere = 1002
book_number_of book.StampThere = 1003
book_number_of book.Memory = 1

-- the number of each refusal to forget a session
abbrev pub forget_number_of : ForgetFault → ℕ
forget_number_of forget.Waits = 1004
forget_number_of forget.Memory = 1
