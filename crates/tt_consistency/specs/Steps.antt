-- What a daemon does at the readings of its clock, and what that makes of it. Each list has the newest first.
use Rattle.std.specs.Prelude.{ℕ, ◌==◌, if◌then◌else◌, List, [], ◌∷◌, ◌++◌, slice_get, Option, Some, None, Result, Ok, Err}
use Rattle.tt_source.specs.Table.{TableState, poll_of, take_of}
use Rattle.tt_source.specs.declared.faults.SourceFault.{SourceFault}
use Rattle.tt_daemon.specs.Config.{Configuration}
use Rattle.tt_daemon.specs.Daemon.{DaemonState, new_daemon}
use Rattle.tt_daemon.specs.declared.faults.DaemonFault.{DaemonFault}
use Rattle.tt_publish.specs.declared.readings.FusedSpan.{FusedSpan}
use Rattle.tt_rounds.specs.Fusing.{Fusion, fusion_at}
use Rattle.tt_world.specs.Config.{config_at}
use Rattle.tt_world.specs.Life.{restarts, life_at}
use Rattle.tt_world.specs.Packet.{machine_of_packet, source_of_packet, bytes_of}
use Rattle.tt_world.specs.Past.{packets_of}
use Rattle.tt_world.specs.Private.Machine.{MachineState, machine_of}
use Rattle.tt_world.specs.declared.events.Event.{Event}
use Rattle.tt_world.specs.declared.events.Action.{Action}
use Rattle.tt_world.specs.declared.events.Action.TheVariants.{Send, Deliver, Fuse}
use Rattle.tt_world.specs.declared.packets.Packet.{Packet}

-- what a daemon does at a reading of its clock: it polls a source, it takes some bytes that came as from a source, or it fuses what it knows and publishes that
pub data Step : Type 0 where
  Polls : ℕ → ℕ → Step
  Takes : ℕ → List ℕ → ℕ → Step
  Fuses : ℕ → Step

-- a daemon, and what it has published in this life, the oldest first
pub record Kept : Type 0 where
  pub daemon : DaemonState
  pub published : List FusedSpan

-- a new daemon of machine m in a life of this number, which has published nothing
abbrev pub new_kept : Configuration → ℕ → ℕ → Kept
new_kept config m life = record { daemon = new_daemon m config life; published = [] }

-- a fusion as its readers see it
abbrev pub fused_span : Fusion → FusedSpan
fused_span fusion = record { clock = fusion.clock; span = fusion.span }

-- the daemon with this table, or as it was where the call was refused
abbrev pub with_table : Kept → Result TableState SourceFault → Kept
with_table kept (Ok table) = record kept { daemon = record kept.daemon { table = table } }
with_table kept (Err fault) = kept

-- the publications with this one behind, or as they were where the fusion was refused
abbrev pub with_fusion : Kept → Result Fusion DaemonFault → Kept
with_fusion kept (Ok fusion) = record kept { published = kept.published ++ fused_span fusion ∷ [] }
with_fusion kept (Err fault) = kept

-- what a step makes; where the daemon refuses it, nothing changes
abbrev pub after_step : Kept → Step → Kept
after_step kept (Polls source clock) = with_table kept (poll_of kept.daemon.table source clock)
after_step kept (Takes source bytes clock) = with_table kept (take_of kept.daemon.table source clock bytes)
after_step kept (Fuses clock) = with_fusion kept (fusion_at kept.daemon clock)

-- what steps make, the last of the list first
abbrev pub after_steps : Kept → List Step → Kept
after_steps kept [] = kept
after_steps kept (step ∷ steps) = after_step (after_steps kept steps) step

-- ---- in a run of the model

-- what is kept of a machine of the model
abbrev pub kept_of : MachineState → Kept
kept_of machine = record { daemon = machine.daemon; published = machine.publications }

-- what is kept of machine m after what has happened, in the life that it is in
abbrev pub kept_at : List Configuration → List Event → ℕ → Kept
kept_at configs past m = kept_of (machine_of (config_at configs m) past (life_at past m))

-- the step of machine m when a packet comes at a clock reading, if it comes to this machine
abbrev pub taken_in : ℕ → ℕ → Option Packet → List Step
taken_in m clock None = []
taken_in m clock (Some packet) = if machine_of_packet packet == m then Takes (source_of_packet packet) (bytes_of packet) clock ∷ [] else []

-- the step of machine m in an action, if there is one
abbrev pub step_in : List Event → ℕ → Action → List Step
step_in past m (Send machine source clock) = if machine == m then Polls source clock ∷ [] else []
step_in past m (Deliver packet clock) = taken_in m clock (slice_get (packets_of past) packet)
step_in past m (Fuse machine clock) = if machine == m then Fuses clock ∷ [] else []
step_in past m _ = []

-- the steps of machine m in the life that it is in
abbrev pub steps_in : List Event → ℕ → List Step
steps_in [] m = []
steps_in (event ∷ past) m = if restarts m event.action then [] else (step_in past m event.action ++ steps_in past m)
