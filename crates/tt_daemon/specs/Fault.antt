-- The numbers of the refusals.
use Rattle.std.specs.Prelude.{ℕ}
use Rattle.tt_fuse.specs.declared.counts.CountFault.{CountFault}
use Rattle.tt_fuse.specs.declared.counts.CountFault.TheVariants as count
use Rattle.tt_daemon.specs.declared.configs.ConfigFault.{ConfigFault}
use Rattle.tt_daemon.specs.declared.configs.ConfigFault.TheVariants as config
use Rattle.tt_daemon.specs.declared.faults.DaemonFault.{DaemonFault}
use Rattle.tt_daemon.specs.declared.faults.DaemonFault.TheVariants as daemon

-- the number of each reason why no machine can be set up so
abbrev pub config_number_of : ConfigFault → ℕ
config_number_of config.NoSource = 501
config_number_of config.TooManySources = 502
config_number_of config.TooFewSources = 503
config_number_of config.Workers = 702

-- the number of each reason why a daemon fuses nothing
abbrev pub number_of : DaemonFault → ℕ
number_of daemon.ClockBack = 402
number_of daemon.Unknown = 701
number_of daemon.NoPoint = 504

-- the reason why no machine can be set up with such a number of sources
abbrev pub config_fault_of : CountFault → ConfigFault
config_fault_of count.NoSource = config.NoSource
config_fault_of count.TooMany = config.TooManySources
config_fault_of count.TooFew = config.TooFewSources
