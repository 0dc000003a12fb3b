-- A worker between two turns: its post, and the sessions that are open.
use Rattle.std.specs.Prelude.{◌≡◌, ◌≤◌, ◌+◌, ◌^◌, ℕ, List, [], ◌++◌, Option, Some, None, IsSome}
use Rattle.std.specs.Io.KnownBytes.{Appends, Consumes, prepend_known}
use Rattle.tt_publish.specs.Known.{WatchState}
use Rattle.tt_stamp.specs.Stamping.{SeatState}
use Rattle.tt_session.specs.Conversation.{Conversation}
use Rattle.tt_session.specs.declared.calls.Call.{Call}
use Rattle.tt_clock.specs.Clock.{ClockState, MachineGives}
use Rattle.tt_connections.specs.Client.{ClientSays}
use Rattle.tt_connections.specs.Station.{PostState, StationState, new_station}
use Rattle.tt_connections.specs.Turns.{PostGoesOn, AllowsOn}
use Rattle.tt_connections.specs.Sessions.{WorkerSession, AreServedBetween}
use Rattle.tt_connections.specs.Visits.{VisitState, StandsAt, StandsOn, new_visit, station_at}
use Rattle.tt_workers.specs.Happening.{WorkerEvent, MadeCall, AreAllByTurns, AreOfSessions, StandsFrom, calls_at, left_at, made_at, made_on, LeadFrom, sessions_of}
use Rattle.slab.specs.Slab.{Slab}

-- how often the clock of a machine has failed
abbrev pub clock_failures : ClockState → ℕ
clock_failures clock = clock.failures

-- the most release steps of one line
abbrev pub max_waits : ℕ
max_waits = 1

-- a session of a worker of the machine
abbrev pub MachineSession : Type 0
MachineSession = WorkerSession MachineGives clock_failures ClientSays max_waits

-- what happens at a worker of the machine
abbrev pub MachineEvent : Type 0
MachineEvent = WorkerEvent MachineGives clock_failures ClientSays max_waits

-- a call at a worker of the machine, as it was made
abbrev pub MachineCall : Type 0
MachineCall = MadeCall MachineGives clock_failures ClientSays

-- a session of a worker of the machine, from state to state
abbrev pub MachineStation : Type 0
MachineStation = StationState ClockState (Unit {0})

-- a session that is open, with its connection: what is kept of it; the bytes that it holds, and those that its connection still gives; what was written to its connection; and what the last two were when it began. What its connection gives and what was written is there if the connection keeps it
pub record SessionState : Type 0 where
  pub visit : VisitState
  pub held : List ℕ
  pub left : Option (List ℕ)
  pub written : Option (List ℕ)
  pub first_left : Option (List ℕ)
  pub first_written : Option (List ℕ)

-- the bytes that a session has not heard: those that it holds, and behind them those that its connection still gives
abbrev pub unheard : SessionState → Option (List ℕ)
unheard session = prepend_known session.held session.left

-- a session that begins: it has heard nothing of what its connection gives, and nothing was written there
pub record IsNew (session : SessionState) : Type 0 where
  pub visit : session.visit ≡ new_visit
  pub gave : Consumes session.first_left (unheard session) []
  pub wrote : Appends session.first_written session.written []

-- a session that was lent the post: it heard these bytes, which its connection gave, in order and once; and these are its replies, all of which were written to its connection, in order and once
pub record Serves (old : SessionState) (post : PostState ClockState) (new : SessionState) (post' : PostState ClockState) : Type 0 where
  pub heard : List ℕ
  pub text : List ℕ
  pub stands : StandsOn MachineGives clock_failures ClientSays max_waits tt heard text old.visit post new.visit post'
  pub goes : PostGoesOn post post'
  pub gave : Consumes (unheard old) (unheard new) heard
  pub wrote : Appends old.written new.written text
  pub first_left : new.first_left ≡ old.first_left
  pub first_written : new.first_written ≡ old.first_written

-- a session that was lent the post for the last time: what it heard is a front of what its connection gave, and of its replies a front was written
pub record ServesLast (old : SessionState) (post : PostState ClockState) (new : SessionState) (post' : PostState ClockState) : Type 0 where
  pub heard : List ℕ
  pub rest : Option (List ℕ)
  pub said : List ℕ
  pub unsaid : List ℕ
  pub stands : StandsOn MachineGives clock_failures ClientSays max_waits tt heard (said ++ unsaid) old.visit post new.visit post'
  pub goes : PostGoesOn post post'
  pub gave : Consumes (unheard old) rest heard
  pub wrote : Appends old.written new.written said
  pub first_left : new.first_left ≡ old.first_left
  pub first_written : new.first_written ≡ old.first_written

-- a session heard a front of these bytes, behind which these are left; and its replies were written, all of them
pub record Hears (bytes rest : List ℕ) (old : SessionState) (post : PostState ClockState) (new : SessionState) (post' : PostState ClockState) : Type 0 where
  pub heard : List ℕ
  pub text : List ℕ
  pub bytes_are : bytes ≡ heard ++ rest
  pub stands : StandsOn MachineGives clock_failures ClientSays max_waits tt heard text old.visit post new.visit post'
  pub goes : PostGoesOn post post'
  pub wrote : Appends old.written new.written text
  pub left : new.left ≡ old.left
  pub first_left : new.first_left ≡ old.first_left
  pub first_written : new.first_written ≡ old.first_written

-- a session heard a front of these bytes, and is over; of its replies a front was written
pub record HearsLast (bytes : List ℕ) (old : SessionState) (post : PostState ClockState) (new : SessionState) (post' : PostState ClockState) : Type 0 where
  pub heard : List ℕ
  pub rest : List ℕ
  pub said : List ℕ
  pub unsaid : List ℕ
  pub bytes_are : bytes ≡ heard ++ rest
  pub stands : StandsOn MachineGives clock_failures ClientSays max_waits tt heard (said ++ unsaid) old.visit post new.visit post'
  pub goes : PostGoesOn post post'
  pub wrote : Appends old.written new.written said
  pub first_left : new.first_left ≡ old.first_left
  pub first_written : new.first_written ≡ old.first_written

-- a worker: the post that it began with, its post, and each session that is open
pub record WorkerState : Type 0 where
  pub first : PostState ClockState
  pub post : PostState ClockState
  pub sessions : Slab SessionState

-- by these calls as they were made, a session that began at the first post came to its lease and its book, at a post from which this one went on
pub record ComesTo (begun : PostState ClockState) (client : Unit {0}) (calls : List Call) (made : List MachineCall) (visit : VisitState) (post : PostState ClockState) : Type 0 where
  pub last : PostState ClockState
  pub goes : PostGoesOn last post
  pub talked : Conversation (AllowsOn MachineGives clock_failures ClientSays) (new_station begun client) calls (station_at last client visit)
  pub made_are : made_on MachineGives clock_failures ClientSays (new_station begun client) calls (station_at last client visit) talked ≡ made

-- a session with these calls goes on: it began at a post that the first one had become. It stands by the bytes that its connection gave since, without those that it has not heard, and by the replies that were written there since. By its calls as they were made it came to what its last turn left
pub record GoesOn (first post : PostState ClockState) (calls : List Call) (made : List MachineCall) (left : Option MachineStation) (session : SessionState) : Type 0 where
  pub client : Unit {0}
  pub begun : PostState ClockState
  pub begins : PostGoesOn first begun
  pub bytes : List ℕ
  pub text : List ℕ
  pub stands : StandsAt MachineGives clock_failures ClientSays max_waits begun client bytes text session.visit post
  pub calls_are : stands.stood.session.calls ≡ calls
  pub gave : Consumes session.first_left (unheard session) bytes
  pub wrote : Appends session.first_written session.written text
  pub comes : ComesTo begun client calls made session.visit post
  pub kept : StandsFrom left (station_at post client session.visit)

-- where a session is open, it goes on with the calls at its place, as they were made, and with what its last turn left; at any other place there are none, and nothing was left
abbrev pub IsOpenWith : PostState ClockState → PostState ClockState → List Call → List MachineCall → Option MachineStation → Option SessionState → Type 0
IsOpenWith first post calls made left (Some session) = GoesOn first post calls made left session
IsOpenWith first post calls made left None = (calls ≡ []) × (made ≡ []) × (left ≡ None)

-- from the first post to this one there were turns alone, of sessions that have ended since or are open, each at its place
pub record HasWorked (first post : PostState ClockState) (open_at : ℕ → Option SessionState) : Type 0 where
  pub events : List MachineEvent
  pub lead : LeadFrom first events post
  pub of_sessions : AreOfSessions events
  pub goes : PostGoesOn first post
  pub ended : AreServedBetween first post (sessions_of events)
  pub each : (place : ℕ) → IsOpenWith first post (calls_at place events) (made_at place events) (left_at place events) (open_at place)

-- the post, or else this one
abbrev pub post_or : PostState ClockState → Option (PostState ClockState) → PostState ClockState
post_or other (Some post) = post
post_or other None = other

-- a worker between two turns has its post, and has worked
pub record IsAt (first : PostState ClockState) (post : Option (PostState ClockState)) (open_at : ℕ → Option SessionState) : Type 0 where
  pub is_there : IsSome post
  pub worked : HasWorked first (post_or first post) open_at

-- what a worker did that began with this post, and handed back this watch and this seat: all was turns of these sessions, which were served meanwhile
pub record WorkerServed (first : PostState ClockState) (watch : WatchState) (seat : SeatState) : Type 0 where
  pub last : PostState ClockState
  pub sessions : List MachineSession
  pub by_turns : AreAllByTurns first sessions last
  pub between : AreServedBetween first last sessions
  pub goes : PostGoesOn first last
  pub watch_is : watch ≡ last.watch
  pub seat_is : seat ≡ last.seat

-- the session at a place was lent the post, and goes on; where there is none, the post stays
abbrev pub Served : Option SessionState → PostState ClockState → Option SessionState → PostState ClockState → Type 0
Served (Some old) post (Some new) post' = Serves old post new post'
Served None post None post' = post' ≡ post
Served _ post _ post' = ⊥

-- the session at a place was lent the post for the last time: there was one
abbrev pub ServedLast : Option SessionState → PostState ClockState → PostState ClockState → Type 0
ServedLast (Some old) post post' = (new : SessionState) × ServesLast old post new post'
ServedLast None post post' = ⊥

-- the lines of so many further bytes can't be counted in this session
abbrev pub IsSpent : ℕ → VisitState → Type 0
IsSpent count visit = 2 ^ 64 ≤ visit.talk.served.lines + count

-- the most sessions of one worker
abbrev pub max_sessions : ℕ
max_sessions = 320
