-- The numbers of the refusals.
use Rattle.std.specs.Prelude.{ℕ}
use Rattle.tt_fuse.specs.declared.counts.CountFault.{CountFault}
use Rattle.tt_fuse.specs.declared.counts.CountFault.TheVariants as count
use Rattle.tt_cert.specs.declared.faults.CertFault.{CertFault}
use Rattle.tt_cert.specs.declared.faults.CertFault.TheVariants.{NoSource, TooMany, TooFew, LeftSet, RightSet, Cover, TooDeep, Depth, BadText, Memory}

-- the number of each refusal
abbrev pub number_of : CertFault → ℕ
number_of NoSource = 501
number_of TooMany = 502
number_of TooFew = 503
number_of LeftSet = 601
number_of RightSet = 602
number_of Cover = 603
number_of TooDeep = 604
number_of Depth = 605
number_of BadText = 606
number_of Memory = 1

-- the refusal of a certificate for the number of its sources
abbrev pub fault_of : CountFault → CertFault
fault_of count.NoSource = NoSource
fault_of count.TooMany = TooMany
fault_of count.TooFew = TooFew
