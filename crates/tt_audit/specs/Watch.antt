-- What an audit keeps to find the first event that breaks the assumptions.
use Rattle.std.specs.Prelude.{◌≡◌, ℕ, ◌<◌, ◌≤◌, nat_le, Bool, true, false, if◌then◌else◌, List, [], ◌∷◌, ◌++◌, map, length, take, replicate, count_by, slice_get, slice_index_or, slice_set, Option, Some, None, IfSome}
use Rattle.std.specs.Option.{option_map, option_or}
use Rattle.tt_span.specs.Time.{max_time}
use Rattle.tt_daemon.specs.Config.{Configuration}
use Rattle.tt_world.specs.Config.{config_at}
use Rattle.tt_world.specs.Life.{life_of, life_at}
use Rattle.tt_world.specs.Packet.{machine_of_packet, source_of_packet}
use Rattle.tt_world.specs.Past.{sends_now, put_by, packets_of, moments_of}
use Rattle.tt_world.specs.Assumptions.{is_lie, is_false_statement}
use Rattle.tt_world.specs.declared.breaches.Breach.{Breach}
use Rattle.tt_world.specs.declared.breaches.Breach.TheVariants.{Drift, FalseStatements}
use Rattle.tt_world.specs.declared.events.Event.{Event}
use Rattle.tt_world.specs.declared.events.Action.{Action}
use Rattle.tt_world.specs.declared.events.Action.TheVariants.{Send, Answer, Forge, Deliver, Fuse, Read, Restart}
use Rattle.tt_world.specs.declared.events.Reply.{Reply}
use Rattle.tt_world.specs.declared.events.Reply.TheVariants.{Taken}
use Rattle.tt_world.specs.declared.packets.Packet.{Packet}
use Rattle.tt_audit.specs.declared.packets.Carried.{Carried}
use Rattle.tt_audit.specs.declared.packets.Tick.{Tick}
use Rattle.tt_audit.specs.declared.paces.Pace.{Pace}
use Rattle.tt_audit.specs.Pace.{pace_after, pace_of, is_in_pace}

-- ---- packets

-- what is kept of a packet
abbrev pub packet_note : Bool → Packet → Carried
packet_note lie packet = record { machine = machine_of_packet packet; source = source_of_packet packet; is_lie = lie }

-- what is kept of all packets that were put, in the order in which they were put
abbrev pub carried_of : List Event → List Carried
carried_of [] = []
carried_of (event ∷ past) = carried_of past ++ map (packet_note (is_lie event.at event.action)) (put_by (life_of past) (sends_now past) (packets_of past) event.action)

-- what is kept of the packet that an action puts at a true time, if it puts one, by what is kept of those before
abbrev pub carried_by : List Carried → ℕ → Action → Option Carried
carried_by before at (Send machine source clock) = Some (record { machine = machine; source = source; is_lie = false })
carried_by before at (Answer packet span) =
    option_map (λ asked. record { machine = asked.machine; source = asked.source; is_lie = is_lie at (Answer packet span) }) (slice_get before packet)
carried_by before at (Forge machine source payload) = Some (record { machine = machine; source = source; is_lie = true })
carried_by before at _ = None

-- what is kept once a packet, if there is one, was put
abbrev pub carried_after : List Carried → Option Carried → List Carried
carried_after before None = before
carried_after before (Some packet) = before ++ packet ∷ []

-- ---- clocks

-- the tick of a clock that goes with the delivery of a packet, if that is there
abbrev pub tick_for : ℕ → Option Carried → Option Tick
tick_for clock packet = option_map (λ c. record { machine = c.machine; clock = clock }) packet

-- the tick of a clock that goes with an action, if one does
abbrev pub tick_of : List Carried → Action → Option Tick
tick_of before (Send machine source clock) = Some (record { machine = machine; clock = clock })
tick_of before (Deliver packet clock) = tick_for clock (slice_get before packet)
tick_of before (Fuse machine clock) = Some (record { machine = machine; clock = clock })
tick_of before (Read machine worker clock publication) = Some (record { machine = machine; clock = clock })
tick_of before (Restart machine clock) = Some (record { machine = machine; clock = clock })
tick_of before _ = None

-- no moment was seen
abbrev pub no_moment : Pace
no_moment = record { slow = 0; fast = 0 }

-- what is kept of the moments of machine m
abbrev pub pace_at : List Pace → ℕ → Pace
pace_at paces m = slice_index_or paces m no_moment

-- what is kept of the moments once an action has restarted its machine, if it does
abbrev pub paces_begun : List Pace → Action → List Pace
paces_begun paces (Restart machine clock) = slice_set paces machine no_moment
paces_begun paces _ = paces

-- and once a tick at a true time, if there is one, was seen
abbrev pub paces_after : List Configuration → ℕ → List Pace → Option Tick → List Pace
paces_after configs at paces None = paces
paces_after configs at paces (Some tick) =
    slice_set paces tick.machine (pace_after (config_at configs tick.machine).drift (pace_at paces tick.machine) (record { clock = tick.clock; time = at }))

-- the clock that breaks its drift bound by a tick, by what is kept of its moments
abbrev pub drift_seen : List Configuration → ℕ → List Pace → Option Tick → Option Breach
drift_seen configs at paces None = None
drift_seen configs at paces (Some tick) =
    if is_in_pace (config_at configs tick.machine).drift (pace_at paces tick.machine) (record { clock = tick.clock; time = at }) then None
    else Some (Drift tick.machine)

-- ---- false statements

-- what is kept of the statements of machine m
abbrev pub lies_at : List (List Bool) → ℕ → List Bool
lies_at lies m = slice_index_or lies m []

-- whether the statement of source i of machine m is kept as false
abbrev pub lie_at : List (List Bool) → ℕ → ℕ → Bool
lie_at lies m i = slice_index_or (lies_at lies m) i false

-- what is kept of the statements once an action has restarted its machine, if it does
abbrev pub lies_begun : List (List Bool) → Action → List (List Bool)
lies_begun lies (Restart machine clock) = slice_set lies machine (replicate 16 false)
lies_begun lies _ = lies

-- what is kept of the packet that an action delivers, if that is taken
abbrev pub taken_in : List Carried → Action → Reply → Option Carried
taken_in before (Deliver packet clock) Taken = slice_get before packet
taken_in before _ _ = None

-- what is kept of the statements once a packet, if there is one, was taken
abbrev pub lies_taken : List (List Bool) → Option Carried → List (List Bool)
lies_taken lies None = lies
lies_taken lies (Some packet) = slice_set lies packet.machine (slice_set (lies_at lies packet.machine) packet.source packet.is_lie)

-- the machine that fuses too many false statements in an action, by what is kept of them
abbrev pub falsity_seen : List Configuration → List (List Bool) → Action → Option Breach
falsity_seen configs lies (Fuse machine clock) =
    if nat_le (count_by (λ lie. lie) (take (config_at configs machine).sources (lies_at lies machine))) (config_at configs machine).faulty then None
    else Some (FalseStatements machine)
falsity_seen configs lies _ = None

-- ---- all of it

-- what is kept of packets, of statements and of clocks
pub record WatchState : Type 0 where
  pub carried : List Carried
  pub lies : List (List Bool)
  pub paces : List Pace

-- what is kept before the first event
abbrev pub nothing_watched : WatchState
nothing_watched = record { carried = []; lies = replicate 8 (replicate 16 false); paces = replicate 8 no_moment }

-- what is kept after an event that was not bad, with its reply
abbrev pub watch_after : List Configuration → WatchState → Event → Reply → WatchState
watch_after configs state event reply = record {
  carried = carried_after state.carried (carried_by state.carried event.at event.action);
  lies = lies_taken (lies_begun state.lies event.action) (taken_in state.carried event.action reply);
  paces = paces_after configs event.at (paces_begun state.paces event.action) (tick_of state.carried event.action);
}

-- the first assumption that an event that was not bad breaks, by what is kept
abbrev pub breach_seen : List Configuration → WatchState → Event → Option Breach
breach_seen configs state event =
    option_or (drift_seen configs event.at (paces_begun state.paces event.action) (tick_of state.carried event.action)) (falsity_seen configs state.lies event.action)

-- what is kept is of these events, none of them bad, for eight machines of sixteen sources
pub record KeepsWatch (configs : List Configuration) (past : List Event) (state : WatchState) : Type 0 where
  pub carried : state.carried ≡ carried_of past
  pub machines : length state.lies ≡ 8
  pub sources : (m : ℕ) → m < 8 → length (lies_at state.lies m) ≡ 16
  pub lies : (m i : ℕ) → m < 8 → i < 16 → lie_at state.lies m i ≡ is_false_statement past (life_at past m) i
  pub clocks : length state.paces ≡ 8
  pub paces : (m : ℕ) → m < 8 → pace_at state.paces m ≡ pace_of (config_at configs m).drift (moments_of past (life_at past m))

-- the clock of a tick is of a machine that is there, and shows a time
pub record IsTick (configs : List Configuration) (tick : Tick) : Type 0 where
  pub machine : tick.machine < length configs
  pub clock : tick.clock ≤ max_time

-- a packet is of a machine below 8 and a source below 16
abbrev pub IsRoute : Carried → Type 0
IsRoute packet = (packet.machine < 8) × (packet.source < 16)

-- an action restarts no machine that can't be there
abbrev pub IsRestartable : Action → Type 0
IsRestartable (Restart machine clock) = machine < 8
IsRestartable _ = Unit {0}

-- an action fuses on no machine that is not there
abbrev pub IsFusable : List Configuration → Action → Type 0
IsFusable configs (Fuse machine clock) = (machine < length configs) × (length configs ≤ 8)
IsFusable configs _ = Unit {0}

-- the event is at a time, its clock ticks on a machine that is there, and the packet that it takes is of a machine and a source that can be
pub record IsWatchable (configs : List Configuration) (state : WatchState) (event : Event) (reply : Reply) : Type 0 where
  pub few : length configs ≤ 8
  pub time : event.at ≤ max_time
  pub tick : IfSome (tick_of state.carried event.action) (IsTick configs)
  pub taken : IfSome (taken_in state.carried event.action reply) IsRoute
  pub restartable : IsRestartable event.action
  pub fusable : IsFusable configs event.action
