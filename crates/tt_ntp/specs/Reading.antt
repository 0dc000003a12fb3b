-- What any bytes say, read as the reply to a query: the reply whose fields they have, or the first refusal that applies.
use Rattle.std.specs.Prelude.{ℕ, ◌+◌, ◌*◌, ◌/◌, List, [], ◌∷◌, ◌++◌, length, Bool, false, not, ◌&&◌, ◌||◌, ◌==◌, nat_lt, if◌then◌else◌, find, Option, Some, None, Result, Ok, Err}
use Rattle.tt_span.specs.Time.{max_time}
use Rattle.tt_ntp.specs.declared.faults.NtpFault.{NtpFault}
use Rattle.tt_ntp.specs.declared.faults.NtpFault.TheVariants.{Length, OtherKey, WrongDigest, Version, Mode, Origin, Rate, Denied, Restricted, Kiss, Unset, Stratum, Local, NoTransmit, Backwards, Reference, Distance, PastMax}
use Rattle.tt_ntp.specs.declared.queries.Query.{Query}
use Rattle.tt_ntp.specs.declared.replies.Leap.{Leap}
use Rattle.tt_ntp.specs.declared.replies.Leap.TheVariants.{No, Inserted, Deleted}
use Rattle.tt_ntp.specs.declared.replies.Reply.{Reply}
use Rattle.tt_ntp.specs.Packet.{packet_len, leap_at, version_at, mode_at, stratum_at, reference_id_at, reference_at, origin_at, receive_at, transmit_at}
use Rattle.tt_ntp.specs.Time.{second, time_of, radius_at, ends_at}

-- what a leap indicator below 3 says
abbrev pub leap_of : ℕ → Leap
leap_of indicator = if indicator == 0 then No else if indicator == 1 then Inserted else Deleted

-- four characters as a number, the first the highest
abbrev pub code_of : ℕ → ℕ → ℕ → ℕ → ℕ
code_of a b c d = ((a * 256 + b) * 256 + c) * 256 + d

-- the kiss code RATE: the client asks too often
abbrev pub rate_code : ℕ
rate_code = code_of 82 65 84 69

-- the kiss code DENY: the server gives this client no time
abbrev pub deny_code : ℕ
deny_code = code_of 68 69 78 89

-- the kiss code RSTR: by its rules the server gives this client no time
abbrev pub restrict_code : ℕ
restrict_code = code_of 82 83 84 82

-- whether the reply is a kiss with this code
abbrev pub is_kiss : List ℕ → ℕ → Bool
is_kiss bytes code = stratum_at bytes == 0 && reference_id_at bytes == code

-- the first three bytes of the address 127.127.1.x, the reference of a server that follows nothing but its own clock
abbrev pub local_reference : ℕ
local_reference = (127 * 256 + 127) * 256 + 1

-- whether what the refusal names is wrong with the bytes, as the reply to the query
unfoldable pub applies : Query → List ℕ → NtpFault → Bool
applies query bytes Length = not (length bytes == packet_len)
applies query bytes OtherKey = false
applies query bytes WrongDigest = false
applies query bytes Version = not (version_at bytes == 4)
applies query bytes Mode = not (mode_at bytes == 4)
applies query bytes Origin = not (origin_at bytes == query.nonce)
applies query bytes Rate = is_kiss bytes rate_code
applies query bytes Denied = is_kiss bytes deny_code
applies query bytes Restricted = is_kiss bytes restrict_code
applies query bytes Kiss = stratum_at bytes == 0 && not (reference_id_at bytes == 0)
applies query bytes Unset = leap_at bytes == 3 || stratum_at bytes == 0
applies query bytes Stratum = not (nat_lt (stratum_at bytes) 16)
applies query bytes Local = not query.takes_local && reference_id_at bytes / 256 == local_reference
applies query bytes NoTransmit = transmit_at bytes == 0
applies query bytes Backwards = nat_lt (time_of (transmit_at bytes)) (time_of (receive_at bytes))
applies query bytes Reference = nat_lt (time_of (transmit_at bytes)) (time_of (reference_at bytes))
applies query bytes Distance = nat_lt second (radius_at bytes)
applies query bytes PastMax = nat_lt max_time (ends_at bytes).hi

-- the refusals of bytes that are no reply to the query, in the order in which they are tested
abbrev pub head_faults : List NtpFault
head_faults = Length ∷ Version ∷ Mode ∷ Origin ∷ []

-- those of a server that asks not to be asked so, or says why it gives no time
abbrev pub kiss_faults : List NtpFault
kiss_faults = Rate ∷ Denied ∷ Restricted ∷ Kiss ∷ []

-- those of a server that has no time to give
abbrev pub clock_faults : List NtpFault
clock_faults = Unset ∷ Stratum ∷ Local ∷ []

-- those of times that are out of order or out of range
abbrev pub time_faults : List NtpFault
time_faults = NoTransmit ∷ Backwards ∷ Reference ∷ Distance ∷ PastMax ∷ []

-- all of these, in the order in which they are tested
abbrev pub reply_faults : List NtpFault
reply_faults = head_faults ++ (kiss_faults ++ (clock_faults ++ time_faults))

-- the first of the refusals that applies, if one does
unfoldable pub first_fault : Query → List ℕ → Option NtpFault
first_fault query bytes = find (applies query bytes) reply_faults

-- the reply whose fields stand in the bytes
abbrev pub reply_at : List ℕ → Reply
reply_at bytes = record { span = ends_at bytes; leap = leap_of (leap_at bytes); stratum = stratum_at bytes }

-- a reply, unless it is refused
abbrev pub unless_refused : Option NtpFault → Reply → Result Reply NtpFault
unless_refused None reply = Ok reply
unless_refused (Some fault) reply = Err fault

-- what the bytes say as the reply to the query
unfoldable pub read_of : Query → List ℕ → Result Reply NtpFault
read_of query bytes = unless_refused (first_fault query bytes) (reply_at bytes)
