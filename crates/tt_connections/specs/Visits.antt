-- Sessions that are served by turns: what is kept of a session from one turn to the next, and what a turn does.
use Rattle.std.specs.Prelude.{◌≡◌, ◌<◌, ℕ, Bool, List, [], ◌++◌, length, Option}
use Rattle.std.specs.Io.KnownBytes.{Appends}
use Rattle.tt_span.specs.Interval.{Interval, whole}
use Rattle.tt_stamp.specs.declared.commits.Entry.{Entry}
use Rattle.tt_session.specs.Conversation.{Conversation}
use Rattle.tt_session.specs.Session.{FlushedBetween}
use Rattle.tt_session.specs.Steps.{Steps}
use Rattle.tt_session.specs.Talks.{TalkState, Stands, first_talk}
use Rattle.tt_session.specs.declared.calls.Call.{Call}
use Rattle.tt_connections.specs.Station.{PostState, StationState, Allows, new_station}
use Rattle.tt_connections.specs.Turns.{PostGoesOn, AllowsOn}
use Rattle.tt_connections.specs.declared.presence.Question.{Question}

-- what is kept of a session between two turns: the session between two of its bytes, the lease that the client set, and what happened in its book, newest first
pub record VisitState : Type 0 where
  pub talk : TalkState
  pub lease : Interval
  pub book : List Entry

-- a session before its first turn
abbrev pub new_visit : VisitState
new_visit = record { talk = first_talk; lease = whole; book = [] }

-- the session of a client whose turn begins at this post
abbrev pub station_at : {C V : Type 0} → PostState C → V → VisitState → StationState C V
station_at post client visit = record { post = post; client = client; lease = visit.lease; book = visit.book }

-- what is kept of a session whose turn ends
abbrev pub visit_of : {C V : Type 0} → StationState C V → TalkState → VisitState
visit_of station talk = record { talk = talk; lease = station.lease; book = station.book }

-- a session that began with the post `first` stands: by its calls so far it came to this lease and this book, at a post from which this one went on
pub record StandsAt {C V : Type 0} (gives : C → Option ℕ → C → Type 0) (failed : C → ℕ) (says : V → Question → Bool → Type 0) (waits : ℕ) (first : PostState C) (client : V) (bytes text : List ℕ) (visit : VisitState) (post : PostState C) : Type 0 where
  pub after : StationState C V
  pub stood : Stands (AllowsOn gives failed says) waits (new_station first client) bytes after text visit.talk
  pub client_is : after.client ≡ client
  pub lease_is : after.lease ≡ visit.lease
  pub book_is : after.book ≡ visit.book
  pub goes : PostGoesOn after.post post

-- a session that stood, after a turn: the calls of the turn, from what it found to what it left, stand behind those before it
pub record StoodOn {C V : Type 0} (gives : C → Option ℕ → C → Type 0) (failed : C → ℕ) (says : V → Question → Bool → Type 0) (waits : ℕ) (first : PostState C) (client : V) (calls : List Call) (bytes text : List ℕ) (visit : VisitState) (post : PostState C) (visit' : VisitState) (post' : PostState C) : Type 0 where
  pub turn : List Call
  pub talked : Conversation (Allows gives failed says) (station_at post client visit) turn (station_at post' client visit')
  pub stands : StandsAt gives failed says waits first client bytes text visit' post'
  pub calls_are : stands.stood.session.calls ≡ calls ++ turn

-- a session that stood before these further bytes stands behind them, with these further replies and calls
abbrev pub StandsOn : {C V : Type 0} → (C → Option ℕ → C → Type 0) → (C → ℕ) → (V → Question → Bool → Type 0) → ℕ → V → List ℕ → List ℕ → VisitState → PostState C → VisitState → PostState C → Type 0
StandsOn {C} {V} gives failed says waits client bytes text visit post visit' post' =
    (first : PostState C) (past told : List ℕ) (stood : StandsAt gives failed says waits first client past told visit post)
    → StoodOn gives failed says waits first client stood.stood.session.calls (past ++ bytes) (told ++ text) visit post visit' post'

-- a turn over these bytes, whose replies were all written
pub record TurnsOn {C V : Type 0} (gives : C → Option ℕ → C → Type 0) (failed : C → ℕ) (says : V → Question → Bool → Type 0) (waits : ℕ) (taken taken' : Option (List ℕ)) (client : V) (bytes : List ℕ) (visit : VisitState) (post : PostState C) (visit' : VisitState) (post' : PostState C) : Type 0 where
  pub text : List ℕ
  pub written : Appends taken taken' text
  pub stands : StandsOn gives failed says waits client bytes text visit post visit' post'

-- a turn that broke off in the replies of its last step: all replies before them were written, and flushed, and of them a front was. In a step only the last line can be that of a commit, so no line was answered behind a commit whose reply was not written whole
pub record BreaksTurn {C V W : Type 0} (gives : C → Option ℕ → C → Type 0) (failed : C → ℕ) (says : V → Question → Bool → Type 0) (waits : ℕ) (shows : W → Option (List ℕ)) (flushed : W → Bool) (old new : W) (client : V) (bytes : List ℕ) (visit : VisitState) (post : PostState C) (visit' : VisitState) (post' : PostState C) : Type 0 where
  -- the bytes before the last step, those that it took, and those behind them
  pub heard : List ℕ
  pub own : List ℕ
  pub unheard : List ℕ
  pub bytes_are : bytes ≡ (heard ++ own) ++ unheard
  -- the session before the last step, with the replies until then
  pub mid : VisitState
  pub mid_post : PostState C
  pub text : List ℕ
  pub stood : StandsOn gives failed says waits client heard text visit post mid mid_post
  -- the last step, with its replies
  pub more : List ℕ
  pub is_commit : Bool
  pub step : Steps (Allows gives failed says) waits (station_at mid_post client mid) mid.talk own (station_at post' client visit') visit'.talk more is_commit
  -- the session behind it
  pub stands : StandsOn gives failed says waits client (heard ++ own) (text ++ more) visit post visit' post'
  -- the replies of the last step, which are some, were cut
  pub front : List ℕ
  pub cut : List ℕ
  pub some : 0 < length more
  pub more_is : more ≡ front ++ cut
  pub kept : FlushedBetween shows flushed (shows old) old new text front
