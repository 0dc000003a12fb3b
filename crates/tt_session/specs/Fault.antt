-- The numbers of the refusals.
use Rattle.std.specs.Prelude.{ℕ}
use Rattle.tt_publish.specs.Fault.{read_number_of}
use Rattle.tt_stamp.specs.Fault.{number_of as stamp_number_of, book_number_of}
use Rattle.tt_session.specs.declared.faults.CommitFault.{CommitFault}
use Rattle.tt_session.specs.declared.faults.CommitFault.TheVariants as commit
use Rattle.tt_session.specs.declared.faults.LineFault.{LineFault}
use Rattle.tt_session.specs.declared.faults.LineFault.TheVariants as line
use Rattle.tt_session.specs.declared.faults.ServeFault.{ServeFault}
use Rattle.tt_session.specs.declared.faults.ServeFault.TheVariants as serve

-- the number of each reason why the session refuses a line
abbrev pub line_number_of : LineFault → ℕ
line_number_of line.BadLine = 1101
line_number_of line.LongLine = 1102
line_number_of line.OldId = 1103
line_number_of line.OtherWaits = 1104

-- the number of each reason why there was no reading, or a commit was not begun
abbrev pub commit_number_of : CommitFault → ℕ
commit_number_of (commit.Read fault) = read_number_of fault
commit_number_of (commit.Stamp fault) = stamp_number_of fault
commit_number_of (commit.Queue fault) = book_number_of fault

-- the number of each reason why a session ended before its input did
abbrev pub number_of : ServeFault → ℕ
number_of serve.ReadFailed = 1105
number_of serve.WriteFailed = 1106
