-- What happened between a daemon and its sources, in the order of true time, and the events of the model that it is. Each list has the newest first.
use Rattle.std.specs.Prelude.{◌≡◌, ◌⊎◌, ℕ, zero, suc, ◌<◌, ◌≤◌, ◌==◌, ◌&&◌, Bool, true, false, if◌then◌else◌, List, [], ◌∷◌, ◌++◌, length, Option, Some, None}
use Rattle.std.specs.List.{AllByRecursion}
use Rattle.std.specs.Option.{option_map, option_or}
use Rattle.tt_span.specs.Time.{max_time}
use Rattle.tt_span.specs.Interval.{Interval, IsInterval, Holds}
use Rattle.tt_span.specs.Drift.{Moment}
use Rattle.tt_daemon.specs.Config.{Configuration}
use Rattle.tt_publish.specs.declared.readings.FusedSpan.{FusedSpan}
use Rattle.tt_world.specs.Assumptions.{FewLie}
use Rattle.tt_world.specs.Bad.{accepted}
use Rattle.tt_world.specs.Config.{config_at}
use Rattle.tt_world.specs.Life.{Life, life_of, life_at}
use Rattle.tt_world.specs.Packet.{bytes_of}
use Rattle.tt_world.specs.Past.{time_of, clock_of, packets_of, moments_of, sends_now}
use Rattle.tt_world.specs.declared.events.Event.{Event}
use Rattle.tt_world.specs.declared.events.Action.TheVariants as action
use Rattle.tt_world.specs.declared.packets.Packet.{Packet}
use Rattle.tt_world.specs.declared.packets.Packet.TheVariants.{Asked, Answered}
use Rattle.tt_consistency.specs.Steps.{Step, Polls, Takes, Fuses, kept_at, new_kept, steps_in}

-- what happens: the daemon makes its next step, or a source gives an answer of this span to the request of this nonce
pub data Happening : Type 0 where
  Does : Step → Happening
  Answers : ℕ → ℕ → Interval → Happening

-- what happens at a true time
pub record Timed : Type 0 where
  pub at : ℕ
  pub happening : Happening

-- the step in what happens, if it is one
abbrev pub step_of : Happening → List Step
step_of (Does step) = step ∷ []
step_of (Answers source nonce span) = []

-- the steps of a timeline
abbrev pub steps_told : List Timed → List Step
steps_told [] = []
steps_told (timed ∷ timeline) = step_of timed.happening ++ steps_told timeline

-- the clock reading of a step
abbrev pub clock_of_step : Step → ℕ
clock_of_step (Polls source clock) = clock
clock_of_step (Takes source bytes clock) = clock
clock_of_step (Fuses clock) = clock

-- the moment of the daemon's clock in what happens at a true time, if it is a step
abbrev pub moment_of : ℕ → Happening → List Moment
moment_of at (Does step) = record { clock = clock_of_step step; time = at } ∷ []
moment_of at (Answers source nonce span) = []

-- the moments of the daemon's clock in a timeline
abbrev pub moments_told : List Timed → List Moment
moments_told [] = []
moments_told (timed ∷ timeline) = moment_of timed.at timed.happening ++ moments_told timeline

-- ---- which timelines can be

-- the true time of the last that happened, or this where nothing did
abbrev pub last_time : ℕ → List Timed → ℕ
last_time begun [] = begun
last_time begun (timed ∷ timeline) = timed.at

-- what the clock shows after what happens
abbrev pub shows_after : Happening → ℕ → ℕ
shows_after (Does step) shown = clock_of_step step
shows_after (Answers source nonce span) shown = shown

-- what the clock showed last, or this where it was not read
abbrev pub last_shown : ℕ → List Timed → ℕ
last_shown shown [] = shown
last_shown shown (timed ∷ timeline) = shows_after timed.happening (last_shown shown timeline)

-- a step names one of so many sources, if it names one
abbrev pub NamesSource : ℕ → Step → Type 0
NamesSource sources (Polls source clock) = source < sources
NamesSource sources (Takes source bytes clock) = source < sources
NamesSource sources (Fuses clock) = Unit {0}

-- each of these steps names one of so many sources, if it names one
abbrev pub AreOf : ℕ → List Step → Type 0
AreOf sources steps = AllByRecursion (NamesSource sources) steps

-- the clock reading of what happens, if it has one, does not go back and is in time
abbrev pub IsForward : ℕ → Happening → Type 0
IsForward shown (Does step) = (shown ≤ clock_of_step step) × (clock_of_step step ≤ max_time)
IsForward shown (Answers source nonce span) = Unit {0}

-- from this true time and this clock reading on neither true times nor clock readings fall, and all are in time; of answers nothing else is asked
abbrev pub IsTimeline : ℕ → ℕ → List Timed → Type 0
IsTimeline begun shown [] = Unit {0}
IsTimeline begun shown (timed ∷ timeline) =
    (last_time begun timeline ≤ timed.at) × (timed.at ≤ max_time) × IsForward (last_shown shown timeline) timed.happening × IsTimeline begun shown timeline

-- ---- its events

-- the place of the last packet that passes a test, if one does
abbrev pub last_place : (Packet → Bool) → List Packet → Option ℕ
last_place test [] = None
last_place test (packet ∷ packets) = option_or (option_map suc (last_place test packets)) (if test packet then Some 0 else None)

-- the packet is the request of this nonce to this source that was sent in this life
abbrev pub is_request_in : Life → ℕ → ℕ → Packet → Bool
is_request_in life source nonce (Asked request) = request.machine == life.machine && request.epoch == life.number && request.source == source && request.nonce == nonce
is_request_in life source nonce _ = false

-- two lists of bytes are the same
abbrev pub are_same : List ℕ → List ℕ → Bool
are_same [] [] = true
are_same (a ∷ one) (b ∷ other) = a == b && are_same one other
are_same _ _ = false

-- the packet is an answer of this source to machine m, and has these bytes
abbrev pub is_answer_with : ℕ → ℕ → List ℕ → Packet → Bool
is_answer_with m source bytes (Answered answer) = answer.machine == m && answer.source == source && are_same (bytes_of (Answered answer)) bytes
is_answer_with m source bytes _ = false

-- the event of an answer, by the place of its request; an answer to no request is none
abbrev pub answer_events : ℕ → Interval → Option ℕ → List Event
answer_events at span (Some packet) = record { at = at; action = action.Answer packet span } ∷ []
answer_events at span None = []

-- the events of bytes that come to machine m, by the place of the answer that has these bytes: it is delivered, and where no source gave it the bytes were made up, and are delivered at once; so many packets were sent before
abbrev pub take_events : ℕ → ℕ → ℕ → List ℕ → ℕ → ℕ → Option ℕ → List Event
take_events m at source bytes clock count (Some packet) = record { at = at; action = action.Deliver packet clock } ∷ []
take_events m at source bytes clock count None =
    record { at = at; action = action.Deliver count clock } ∷ record { at = at; action = action.Forge m source bytes } ∷ []

-- the events of machine m in what happens at a true time after the past
abbrev pub events_at : List Event → ℕ → ℕ → Happening → List Event
events_at past m at (Does (Polls source clock)) = record { at = at; action = action.Send m source clock } ∷ []
events_at past m at (Does (Takes source bytes clock)) =
    take_events m at source bytes clock (length (packets_of past)) (last_place (is_answer_with m source bytes) (packets_of past))
events_at past m at (Does (Fuses clock)) = record { at = at; action = action.Fuse m clock } ∷ []
events_at past m at (Answers source nonce span) = answer_events at span (last_place (is_request_in (life_at past m) source nonce) (packets_of past))

-- the events of machine m in a timeline, after the events of a base
abbrev pub events_of : List Event → ℕ → List Timed → List Event
events_of base m [] = []
events_of base m (timed ∷ timeline) = events_at (events_of base m timeline ++ base) m timed.at timed.happening ++ events_of base m timeline

-- these events, after those of a base, are a run of machine m that makes these steps at these moments: none is bad, the machine stays in its life, and it makes no other step and reads its clock at no other moment
pub record IsRunOf (configs : List Configuration) (m : ℕ) (base events : List Event) (steps : List Step) (moments : List Moment) : Type 0 where
  pub good : accepted configs (events ++ base) ≡ events ++ base
  pub same_life : life_of (events ++ base) m ≡ life_of base m
  pub steps_are : steps_in (events ++ base) m ≡ steps ++ steps_in base m
  pub moments_are : moments_of (events ++ base) (life_at base m) ≡ moments ++ moments_of base (life_at base m)

-- ---- what is published in it

-- the moment is one of these
abbrev pub IsAmong : Moment → List Moment → Type 0
IsAmong moment [] = ⊥
IsAmong moment (other ∷ moments) = (other ≡ moment) ⊎ IsAmong moment moments

-- a publication held the true time of one of these moments, at which the clock showed the reading of the publication
pub record HeldTrueTime (moments : List Moment) (publication : FusedSpan) : Type 0 where
  pub time : ℕ
  pub moment : IsAmong (record { clock = publication.clock; time = time }) moments
  pub held : Holds publication.span time

-- the span of an answer is one of time
abbrev pub IsOfTime : Happening → Type 0
IsOfTime (Does step) = Unit {0}
IsOfTime (Answers source nonce span) = IsInterval span

-- the span of each answer in a timeline is one of time
abbrev pub AreOfTime : List Timed → Type 0
AreOfTime [] = Unit {0}
AreOfTime (timed ∷ timeline) = IsOfTime timed.happening × AreOfTime timeline

-- ---- how a life begins

-- so many restarts of machine m, at one true time and one clock reading
abbrev pub restarts_of : ℕ → ℕ → ℕ → ℕ → List Event
restarts_of m at clock zero = []
restarts_of m at clock (suc n) = record { at = at; action = action.Restart m clock } ∷ restarts_of m at clock n

-- after these events machine m begins the life of this number: none is bad, its daemon is new, they end by this true time and show no later clock reading, the clock was read in this life at no other moment, nothing was polled in it, and nothing false was fused
pub record BeginsLife (configs : List Configuration) (m number at clock : ℕ) (base : List Event) : Type 0 where
  pub good : accepted configs base ≡ base
  pub as_new : kept_at configs base m ≡ new_kept (config_at configs m) m number
  pub by_time : time_of base ≤ at
  pub by_clock : clock_of base (life_at base m) ≤ clock
  pub one_moment : AllByRecursion (λ moment. moment ≡ record { clock = clock; time = at }) (moments_of base (life_at base m))
  pub none_polled : sends_now base m ≡ 0
  pub few_lie : FewLie configs base
