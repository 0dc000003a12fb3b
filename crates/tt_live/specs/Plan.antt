-- Which scripts can be run live.
use Rattle.std.specs.Prelude.{Bool, false, ◌&&◌, nat_eq, if◌then◌else◌, List, [], ◌∷◌, length, Option, Some, None}
use Rattle.tt_daemon.specs.Config.{Configuration}
use Rattle.tt_script.specs.Lives.{LiveRun}
use Rattle.tt_live.specs.declared.faults.LiveFault.{LiveFault}
use Rattle.tt_live.specs.declared.faults.LiveFault.TheVariants.{NoLive, Unfit}

-- whether there is one master for each source of the machine, and one session for each worker
abbrev pub fits_machine : Configuration → LiveRun → Bool
fits_machine machine run = nat_eq (length run.masters) machine.sources && nat_eq (length run.sessions) machine.workers

-- whether there is exactly one machine, and the part for a run in threads fits it
abbrev pub fits : List Configuration → LiveRun → Bool
fits (machine ∷ []) run = fits_machine machine run
fits _ run = false

-- why a script is not run live, if there is a reason
abbrev pub refusal_of : List Configuration → Option LiveRun → Option LiveFault
refusal_of machines None = Some NoLive
refusal_of machines (Some run) = if fits machines run then None else Some Unfit
