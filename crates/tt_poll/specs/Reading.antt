-- What any bytes say, read as a message of a format: the message that they spell, or the first refusal that applies.
use Rattle.std.specs.Prelude.{ℕ, ◌+◌, ◌<◌, List, [], ◌∷◌, ◌++◌, length, Bool, not, ◌&&◌, ◌||◌, ◌==◌, nat_eq, nat_lt, if◌then◌else◌, slice_index, slice_range, find, Option, Some, None, Result, Ok, Err}
use Rattle.std.specs.List.{starts_with}
use Rattle.std.specs.Int.{w64, from_be_bytes}
use Rattle.tt_span.specs.Time.{max_time}
use Rattle.tt_span.specs.Interval.{Interval}
use Rattle.tt_poll.specs.declared.faults.PollFault.{PollFault}
use Rattle.tt_poll.specs.declared.faults.PollFault.TheVariants.{Length, Magic, Kind, Reserved, Number, Nonce, Epoch, Span}
use Rattle.tt_poll.specs.declared.format.Format.{Format}
use Rattle.tt_poll.specs.declared.format.Format.TheVariants.{Ttp1, Ttp2}
use Rattle.tt_poll.specs.declared.messages.Message.{Message}
use Rattle.tt_poll.specs.declared.messages.Message.TheVariants.{Request, Answer}
use Rattle.tt_poll.specs.declared.messages.Message2.{Message2}
use Rattle.tt_poll.specs.declared.messages.Message2.TheVariants as two
use Rattle.tt_poll.specs.Message.{max_machine, max_source, PollRequest, PollAnswer, PollRequest2, PollAnswer2}
use Rattle.tt_poll.specs.Format.{magic_of, request_len_of, answer_len_of, kind_of}

-- each of the numbers is a byte
abbrev pub IsBytes : List ℕ → Type 0
IsBytes bytes = (i : ℕ) → slice_index bytes i < 256

-- the number in the eight bytes from place i on, the highest first
abbrev pub number_at : List ℕ → ℕ → ℕ
number_at bytes i = from_be_bytes w64 (slice_range bytes i (i + 8))

-- the kind that the bytes say
abbrev pub kind_at : List ℕ → ℕ
kind_at bytes = slice_index bytes 4

-- the machine that they name
abbrev pub machine_at : List ℕ → ℕ
machine_at bytes = slice_index bytes 5

-- the source that they name, in one byte
abbrev pub source_byte_at : List ℕ → ℕ
source_byte_at bytes = slice_index bytes 6

-- the byte that is to be 0
abbrev pub reserved_at : List ℕ → ℕ
reserved_at bytes = slice_index bytes 7

-- the nonce that they say
abbrev pub nonce_at : List ℕ → ℕ
nonce_at bytes = number_at bytes 8

-- the epoch that bytes of TTP2 say
abbrev pub epoch_at : List ℕ → ℕ
epoch_at bytes = number_at bytes 16

-- the two ends that stand from place i on, which need not be in order
abbrev pub ends_at : List ℕ → ℕ → Interval
ends_at bytes i = record { lo = number_at bytes i; hi = number_at bytes (i + 8) }

-- the two ends that bytes of TTP1 say
abbrev pub span_at : List ℕ → Interval
span_at bytes = ends_at bytes (request_len_of Ttp1)

-- the two ends that bytes of TTP2 say
abbrev pub span_at2 : List ℕ → Interval
span_at2 bytes = ends_at bytes (request_len_of Ttp2)

-- the request whose fields stand in the bytes
abbrev pub request_at : List ℕ → PollRequest
request_at bytes = record { machine = machine_at bytes; source = source_byte_at bytes; nonce = nonce_at bytes }

-- the answer whose fields stand in the bytes
abbrev pub answer_at : List ℕ → PollAnswer
answer_at bytes = record { machine = machine_at bytes; source = source_byte_at bytes; nonce = nonce_at bytes; span = span_at bytes }

-- the message whose fields stand in the bytes: a request where they have the length of one, else an answer
abbrev pub message_at : List ℕ → Message
message_at bytes = if length bytes == request_len_of Ttp1 then Request (request_at bytes) else Answer (answer_at bytes)

-- the same three, of TTP2
abbrev pub request_at2 : List ℕ → PollRequest2
request_at2 bytes = record { machine = machine_at bytes; source = source_byte_at bytes; nonce = nonce_at bytes; epoch = epoch_at bytes }

abbrev pub answer_at2 : List ℕ → PollAnswer2
answer_at2 bytes = record { machine = machine_at bytes; source = source_byte_at bytes; nonce = nonce_at bytes; epoch = epoch_at bytes; span = span_at2 bytes }

abbrev pub message_at2 : List ℕ → Message2
message_at2 bytes = if length bytes == request_len_of Ttp2 then two.Request (request_at2 bytes) else two.Answer (answer_at2 bytes)

-- these two ends are no span of time
abbrev pub are_no_span : Interval → Bool
are_no_span ends = nat_lt ends.hi ends.lo || nat_lt max_time ends.hi

-- whether what the refusal names is wrong with the bytes, as bytes of the format
abbrev pub applies_in : Format → List ℕ → PollFault → Bool
applies_in format bytes Length = not (length bytes == request_len_of format || length bytes == answer_len_of format)
applies_in format bytes Magic = not (starts_with nat_eq bytes (magic_of format))
applies_in format bytes Kind = not (kind_at bytes == kind_of format (length bytes))
applies_in format bytes Reserved = not (reserved_at bytes == 0)
applies_in format bytes Number = nat_lt max_machine (machine_at bytes) || nat_lt max_source (source_byte_at bytes)
applies_in format bytes Nonce = nonce_at bytes == 0
applies_in format bytes Epoch = epoch_at bytes == 0
applies_in format bytes Span = length bytes == answer_len_of format && are_no_span (ends_at bytes (request_len_of format))

-- the same of bytes of TTP1
abbrev pub applies : List ℕ → PollFault → Bool
applies bytes = applies_in Ttp1 bytes

-- the same of bytes of TTP2
abbrev pub applies2 : List ℕ → PollFault → Bool
applies2 bytes = applies_in Ttp2 bytes

-- the refusals of what the two formats share, in the order in which they are tested
abbrev pub head_faults : List PollFault
head_faults = Length ∷ Magic ∷ Kind ∷ Reserved ∷ Number ∷ Nonce ∷ []

-- the refusals of TTP1, in the order in which they are tested
abbrev pub poll_faults : List PollFault
poll_faults = head_faults ++ Span ∷ []

-- the refusals of TTP2, in the order in which they are tested: the epoch is judged before the span
abbrev pub poll_faults2 : List PollFault
poll_faults2 = head_faults ++ Epoch ∷ Span ∷ []

-- the first of the refusals that applies to the bytes, if one does
unfoldable pub first_poll_fault : List ℕ → Option PollFault
first_poll_fault bytes = find (applies bytes) poll_faults

-- the same of bytes of TTP2
unfoldable pub first_poll_fault2 : List ℕ → Option PollFault
first_poll_fault2 bytes = find (applies_in Ttp2 bytes) poll_faults2

-- a message, unless it is refused
abbrev pub unless_refused : {M : Type 0} → Option PollFault → M → Result M PollFault
unless_refused None m = Ok m
unless_refused (Some e) m = Err e

-- what the first sixteen bytes say: the first refusal of what the two formats share, or else the request whose fields they have
unfoldable pub head_read_of : Format → List ℕ → Result PollRequest PollFault
head_read_of format bytes = unless_refused (find (applies_in format bytes) head_faults) (request_at bytes)

-- what the bytes say: their first refusal, or else the message whose fields they have
unfoldable pub read_of : List ℕ → Result Message PollFault
read_of bytes = unless_refused (first_poll_fault bytes) (message_at bytes)

-- the same of bytes of TTP2
unfoldable pub read_of2 : List ℕ → Result Message2 PollFault
read_of2 bytes = unless_refused (first_poll_fault2 bytes) (message_at2 bytes)
