-- The numbers of the refusals.
use Rattle.std.specs.Prelude.{ℕ}
use Rattle.tt_fuse.specs.declared.fusion.FuseFault.{FuseFault}
use Rattle.tt_fuse.specs.declared.fusion.FuseFault.TheVariants.{NoSource, TooMany, TooFew, NoPoint}
use Rattle.tt_fuse.specs.declared.counts.CountFault.{CountFault}
use Rattle.tt_fuse.specs.declared.counts.CountFault.TheVariants as count

-- the number of each refusal
abbrev pub number_of : FuseFault → ℕ
number_of NoSource = 501
number_of TooMany = 502
number_of TooFew = 503
number_of NoPoint = 504

-- the refusal of a fusion for its number of sources
abbrev pub fault_of : CountFault → FuseFault
fault_of count.NoSource = NoSource
fault_of count.TooMany = TooMany
fault_of count.TooFew = TooFew
