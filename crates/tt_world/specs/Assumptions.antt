-- What is assumed of a run: each clock keeps its drift bound, and few statements are false.
use Rattle.std.specs.Prelude.{◌≡◌, ℕ, ◌<◌, ◌≤◌, ◌&&◌, not, nat_lt, nat_le, Bool, true, false, if◌then◌else◌, List, [], ◌∷◌, length, count_by, is_some, Option, Some, None}
use Rattle.std.specs.List.{range_with_len}
use Rattle.std.specs.Option.{option_and_then, option_or}
use Rattle.tt_span.specs.Drift.{Moment, KeepsDrift, distance, widening}
use Rattle.tt_world.specs.declared.breaches.Breach.{Breach}
use Rattle.tt_world.specs.declared.breaches.Breach.TheVariants.{Drift, FalseStatements}
use Rattle.tt_world.specs.Life.{Life, life_at}
use Rattle.tt_world.specs.declared.events.Event.{Event}
use Rattle.tt_world.specs.declared.events.Action.{Action}
use Rattle.tt_world.specs.declared.events.Action.TheVariants.{Answer, Forge, Deliver, Fuse}
use Rattle.tt_daemon.specs.Config.{Configuration}
use Rattle.tt_world.specs.Config.{config_at}
use Rattle.tt_world.specs.Past.{packets_of, ClockReading, clock_reading, moments_of}
use Rattle.tt_world.specs.Sources.{stated_by, outstanding_poll}
use Rattle.tt_world.specs.Bad.{first_bad, accepted}

-- the event that sent packet p, if it was sent
abbrev pub origin_of : List Event → ℕ → Option Event
origin_of [] p = None
origin_of (event ∷ past) p =
    if nat_lt p (length (packets_of past)) then origin_of past p
    else if nat_lt p (length (packets_of (event ∷ past))) then Some event
    else None

-- the packet that an event delivers, if it delivers one
abbrev pub delivered_by : Action → Option ℕ
delivered_by (Deliver packet clock) = Some packet
delivered_by _ = None

-- the packet that made the statement of source i in this life, if there is a statement
abbrev pub packet_of_statement : List Event → Life → ℕ → Option ℕ
packet_of_statement [] life i = None
packet_of_statement (event ∷ past) life i =
    if is_some (stated_by past life i (outstanding_poll past life i) event.action) then delivered_by event.action
    else packet_of_statement past life i

-- whether an action at a true time sends a lie: bytes that were made up, or an answer whose span does not hold that time
abbrev pub is_lie : ℕ → Action → Bool
is_lie at (Answer packet span) = not (nat_le span.lo at && nat_le at span.hi)
is_lie at (Forge machine source payload) = true
is_lie at _ = false

-- whether an event, if there is one, sends a lie
abbrev pub is_lying : Option Event → Bool
is_lying None = false
is_lying (Some event) = is_lie event.at event.action

-- whether the statement of source i in this life is false
abbrev pub is_false_statement : List Event → Life → ℕ → Bool
is_false_statement past life i = is_lying (option_and_then (origin_of past) (packet_of_statement past life i))

-- how many statements of this life are false
abbrev pub false_count : Configuration → List Event → Life → ℕ
false_count config past life = count_by (λ i. is_false_statement past life i) (range_with_len 0 config.sources)

-- where an action fuses, no more statements of that machine are false than may be
abbrev pub HasFewFalse : List Configuration → List Event → Action → Type 0
HasFewFalse configs past (Fuse machine clock) = false_count (config_at configs machine) past (life_at past machine) ≤ (config_at configs machine).faulty
HasFewFalse configs past _ = Unit {0}

-- at every fusion that was not bad few statements were false
abbrev pub FewLie : List Configuration → List Event → Type 0
FewLie configs [] = Unit {0}
FewLie configs (event ∷ past) = HasFewFalse configs past event.action × FewLie configs past

-- the clock of each machine keeps its drift bound over all moments of a life
abbrev pub ClocksKeepDrift : List Configuration → List Event → Type 0
ClocksKeepDrift configs past = (life : Life) → life.machine < length configs → KeepsDrift (config_at configs life.machine).drift (moments_of past life)

-- the assumptions, over a list of events, bad ones among them, the newest first
pub record MeetsAssumptions (configs : List Configuration) (past : List Event) : Type 0 where
  pub clocks : ClocksKeepDrift configs (accepted configs past)
  pub sources : FewLie configs (accepted configs past)

-- whether a moment agrees with each of these within the drift
abbrev pub agrees_with_all : ℕ → Moment → List Moment → Bool
agrees_with_all ppm moment [] = true
agrees_with_all ppm moment (other ∷ others) =
    nat_le (distance (distance moment.clock other.clock) (distance moment.time other.time)) (widening ppm (distance moment.clock other.clock))
    && agrees_with_all ppm moment others

-- the clock that breaks its drift bound by a reading at this true time, if there is one and it does
abbrev pub drift_breach : List Configuration → List Event → ℕ → Option ClockReading → Option Breach
drift_breach configs past at None = None
drift_breach configs past at (Some reading) =
    if agrees_with_all (config_at configs reading.life.machine).drift (record { clock = reading.clock; time = at }) (moments_of past reading.life) then None
    else Some (Drift reading.life.machine)

-- the machine that fuses too many false statements in an action, if one does
abbrev pub falsity_breach : List Configuration → List Event → Action → Option Breach
falsity_breach configs past (Fuse machine clock) =
    if nat_le (false_count (config_at configs machine) past (life_at past machine)) (config_at configs machine).faulty then None else Some (FalseStatements machine)
falsity_breach configs past _ = None

-- the first assumption that an event breaks after a list of events, bad ones among them: the drift bound first, then that few statements are false; a bad event breaks none
abbrev pub breach_of : List Configuration → List Event → Event → Option Breach
breach_of configs past event =
    let before = accepted configs past in
    if is_some (first_bad configs before event) then None
    else option_or (drift_breach configs before event.at (clock_reading before event.action)) (falsity_breach configs before event.action)

-- none of the events breaks an assumption
abbrev pub NoBreach : List Configuration → List Event → Type 0
NoBreach configs [] = Unit {0}
NoBreach configs (event ∷ past) = (breach_of configs past event ≡ None) × NoBreach configs past
