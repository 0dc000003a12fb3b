-- The numbers of the refusals.
use Rattle.std.specs.Prelude.{ℕ}
use Rattle.tt_ntp.specs.declared.faults.NtpFault.{NtpFault}
use Rattle.tt_ntp.specs.declared.faults.NtpFault.TheVariants.{Length, OtherKey, WrongDigest, Version, Mode, Origin, Rate, Denied, Restricted, Kiss, Unset, Stratum, Local, NoTransmit, Backwards, Reference, Distance, PastMax}

-- the number of each reason why a reply is refused
abbrev pub number_of : NtpFault → ℕ
number_of Length = 2301
number_of OtherKey = 2302
number_of WrongDigest = 2303
number_of Version = 2304
number_of Mode = 2305
number_of Origin = 2306
number_of Rate = 2307
number_of Denied = 2308
number_of Restricted = 2309
number_of Kiss = 2310
number_of Unset = 2311
number_of Stratum = 2312
number_of Local = 2313
number_of NoTransmit = 2314
number_of Backwards = 2315
number_of Reference = 2316
number_of Distance = 2317
number_of PastMax = 2318
