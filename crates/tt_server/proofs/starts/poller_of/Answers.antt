use Rattle.std.proofs.Common.{ap, subst}
use Rattle.tt_daemon.specs.Config.{IsConfiguration}
use Rattle.tt_daemon.specs.Daemon.{DaemonState}
use Rattle.tt_server.proofs.starts.poller_of.Goals as goal

pub returns-clause-configured : goal.returns-clause-configured
returns-clause-configured g c = subst IsConfiguration (ap (λ (d : DaemonState). d.config) c.new-daemon.ensures.value) c.new-daemon.ensures.valid.configuration
