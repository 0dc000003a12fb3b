-- Nonces on the wire: those of the daemon, moved round within 1 to 2^64 - 1.
use Rattle.std.specs.Prelude.{ℕ, ◌+◌, ◌-◌, ◌^◌, List, nat_lt, if◌then◌else◌, Result, Ok, Err}
use Rattle.tt_poll.specs.declared.faults.PollFault.{PollFault}
use Rattle.tt_poll.specs.declared.messages.Message2.{Message2}
use Rattle.tt_poll.specs.declared.messages.Message2.TheVariants.{Request, Answer}
use Rattle.tt_poll.specs.Message.{PollRequest2}
use Rattle.tt_poll.specs.Spelling.{spelling_of2}
use Rattle.tt_poll.specs.Reading.{read_of2}

-- the greatest nonce, 2^64 - 1; after it comes 1
abbrev pub max_nonce : ℕ
max_nonce = 18446744073709551615

-- the nonce on the wire
abbrev pub moved_nonce : ℕ → ℕ → ℕ
moved_nonce ahead nonce = if nat_lt (nonce + ahead) (2 ^ 64) then nonce + ahead else nonce + ahead - max_nonce

-- the nonce of the daemon
abbrev pub back_nonce : ℕ → ℕ → ℕ
back_nonce ahead nonce = if nat_lt ahead nonce then nonce - ahead else nonce + max_nonce - ahead

-- the nonce of a message
abbrev pub nonce_of : Message2 → ℕ
nonce_of (Request r) = r.nonce
nonce_of (Answer a) = a.nonce

-- the message with another nonce
abbrev pub with_nonce : Message2 → ℕ → Message2
with_nonce (Request r) nonce = Request (record r { nonce = nonce })
with_nonce (Answer a) nonce = Answer (record a { nonce = nonce })

-- a message is spelled again with the other nonce; bytes that are no message of TTP2 stay
abbrev pub respelled : (ℕ → ℕ) → Result Message2 PollFault → List ℕ → List ℕ
respelled other (Ok message) bytes = spelling_of2 (with_nonce message (other (nonce_of message)))
respelled other (Err fault) bytes = bytes

-- the bytes on the wire
unfoldable pub moved : ℕ → List ℕ → List ℕ
moved ahead bytes = respelled (moved_nonce ahead) (read_of2 bytes) bytes

-- the bytes of the daemon
unfoldable pub moved_back : ℕ → List ℕ → List ℕ
moved_back ahead bytes = respelled (back_nonce ahead) (read_of2 bytes) bytes

-- the request on the wire
abbrev pub moved_request : ℕ → PollRequest2 → PollRequest2
moved_request ahead request = record request { nonce = moved_nonce ahead request.nonce }
