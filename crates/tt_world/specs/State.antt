-- What the model of a run keeps, and which runs it stands for.
use Rattle.std.specs.Prelude.{◌≡◌, ◌≤◌, ℕ, ◌&&◌, Bool, List, map, length, is_some}
use Rattle.std.specs.List.{range_with_len}
use Rattle.tt_world.specs.Life.{life_at}
use Rattle.tt_world.specs.declared.events.Event.{Event}
use Rattle.tt_world.specs.declared.packets.Packet.{Packet}
use Rattle.tt_daemon.specs.Config.{Configuration}
use Rattle.tt_world.specs.Config.{config_at, max_machines}
use Rattle.tt_world.specs.Past.{time_of, packets_of}
use Rattle.tt_world.specs.Sources.{statement_of}
use Rattle.tt_world.specs.Publications.{Showing, shown_of}
use Rattle.tt_world.specs.Bad.{has_source, accepted}
use Rattle.tt_world.specs.Private.Machine.{MachineState, machine_of}

-- what is kept of a run
pub record WorldState : Type 0 where
  pub time : ℕ
  pub packets : List Packet
  pub machines : List MachineState
  pub shown : List Showing

-- what always holds of what is kept of a run
pub record IsWorld (world : WorldState) : Type 0 where
  pub few_machines : length world.machines ≤ max_machines

-- what is kept of a run of these events, none of them bad
abbrev pub state_of : List Configuration → List Event → WorldState
state_of configs past = record {
  time = time_of past;
  packets = packets_of past;
  machines = map (λ m. machine_of (config_at configs m) past (life_at past m)) (range_with_len 0 (length configs));
  shown = shown_of configs past;
}

-- whether machine m asks source i, and that has made a statement in the machine's life
abbrev pub knows : List Configuration → List Event → ℕ → ℕ → Bool
knows configs past m i = has_source configs m i && is_some (statement_of past (life_at past m) i)

-- what is kept is what a run of these events leaves, bad ones among them, the newest first
abbrev pub StandsFor : List Configuration → List Event → WorldState → Type 0
StandsFor configs past world = world ≡ state_of configs (accepted configs past)
