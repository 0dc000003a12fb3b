-- What is said where a machine does not reply, and how the program ends after the replies to its lines.
use Rattle.std.specs.Prelude.{ℕ, Bool, true, false, Option, Some, None}
use Rattle.std.specs.declared.io.ErrorKind.{ErrorKind}
use Rattle.std.specs.declared.io.ErrorKind.TheVariants.{ConnectionRefused, NotFound}
use Rattle.ttd_words.specs.declared.ending.Status.{Status}
use Rattle.ttd_words.specs.declared.ending.Status.TheVariants.{Fine, Bad, Pending}
use Rattle.tt_live.specs.declared.replies.Meaning.{Meaning}
use Rattle.tt_live.specs.declared.replies.Meaning.TheVariants as meaning
use Rattle.tt_live.specs.declared.exchanges.ExchangeFault.{ExchangeFault}
use Rattle.tt_live.specs.declared.exchanges.ExchangeFault.TheVariants.{Unsent, Failed, Closed, TooLong}

-- Nothing listens at the address, or there is no such socket.
abbrev pub is_unheard : ErrorKind → Bool
is_unheard ConnectionRefused = true
is_unheard NotFound = true
is_unheard _ = false

-- The device may have failed because the time was over.
abbrev pub may_be_late : ExchangeFault → Bool
may_be_late Unsent = true
may_be_late Failed = true
may_be_late Closed = false
may_be_late TooLong = false

-- How the program ends after two lines: by a refusal, if there is one, and else by a commit that waits.
abbrev pub worse : Status → Status → Status
worse Fine other = other
worse Pending Bad = Bad
worse one other = one

-- How the program ends after the last reply to a line.
abbrev pub ending_of : Meaning → Option ℕ → Status
ending_of what (Some number) = Bad
ending_of meaning.Pending None = Pending
ending_of what None = Fine
