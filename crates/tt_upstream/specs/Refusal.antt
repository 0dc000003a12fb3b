-- What a refusal means for what is known of a server.
use Rattle.std.specs.Prelude.{ℕ, ◌+◌, ◌-◌, ◌^◌, Bool, true, false, min, if◌then◌else◌}
use Rattle.tt_ntp.specs.Fault.{number_of}
use Rattle.tt_ntp.specs.declared.faults.NtpFault.{NtpFault}
use Rattle.tt_ntp.specs.declared.faults.NtpFault.TheVariants.{Length, OtherKey, WrongDigest, Version, Mode, Origin, Rate, Denied, Restricted, Kiss, Unset, Stratum, Local, NoTransmit, Backwards, Reference, Distance, PastMax}
use Rattle.tt_upstream.specs.declared.refusals.Meaning.{Meaning}
use Rattle.tt_upstream.specs.declared.refusals.Meaning.TheVariants.{Stray, TooOften, Stop, NoTime}
use Rattle.tt_upstream.specs.declared.tallies.Tally.{Tally}

-- what each refusal means
abbrev pub meaning_of : NtpFault → Meaning
meaning_of Length = Stray
meaning_of OtherKey = Stray
meaning_of WrongDigest = Stray
meaning_of Version = Stray
meaning_of Mode = Stray
meaning_of Origin = Stray
meaning_of Rate = TooOften
meaning_of Denied = Stop
meaning_of Restricted = Stop
meaning_of Kiss = NoTime
meaning_of Unset = NoTime
meaning_of Stratum = NoTime
meaning_of Local = NoTime
meaning_of NoTransmit = NoTime
meaning_of Backwards = NoTime
meaning_of Reference = NoTime
meaning_of Distance = NoTime
meaning_of PastMax = NoTime

-- whether a refusal is a kiss code
abbrev pub is_kiss_fault : NtpFault → Bool
is_kiss_fault Rate = true
is_kiss_fault Denied = true
is_kiss_fault Restricted = true
is_kiss_fault Kiss = true
is_kiss_fault _ = false

-- the greatest number of 64 bits
abbrev pub most : ℕ
most = 2 ^ 64 - 1

-- a sum, cut at the greatest number
abbrev pub sum_of : ℕ → ℕ → ℕ
sum_of a b = min (a + b) most

-- the counts of a server of which nothing is known
abbrev pub no_tally : Tally
no_tally = record { asked = 0; taken = 0; refused = 0; kisses = 0; last_fault = 0 }

-- the counts once a request was sent
abbrev pub asked_tally : Tally → Tally
asked_tally tally = record tally { asked = sum_of tally.asked 1 }

-- the counts once a reply was taken
abbrev pub taken_tally : Tally → Tally
taken_tally tally = record tally { taken = sum_of tally.taken 1 }

-- the counts once bytes were refused: kisses are counted apart
abbrev pub refused_tally : Tally → NtpFault → Tally
refused_tally tally fault =
    if is_kiss_fault fault then record tally { kisses = sum_of tally.kisses 1; last_fault = number_of fault }
    else record tally { refused = sum_of tally.refused 1; last_fault = number_of fault }
