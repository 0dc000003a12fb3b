-- The sessions that a worker served in its life, by turns. Each list has the newest first.
use Rattle.std.specs.Prelude.{ℕ, List, All, Bool, Option}
use Rattle.tt_session.specs.Session.{Session}
use Rattle.tt_session.specs.declared.begun.Begun.{Begun}
use Rattle.tt_session.specs.declared.serving.Served.{Served}
use Rattle.tt_connections.specs.Station.{PostState, StationState, new_station}
use Rattle.tt_connections.specs.Turns.{PostGoesOn, AllowsOn}
use Rattle.tt_connections.specs.declared.presence.Question.{Question}

-- a session of a client, before each call of which the post of its worker may have gone on: the post at its beginning, the session after its last call, the bytes that it heard, and the replies to their lines
pub record WorkerSession {C V : Type 0} (gives : C → Option ℕ → C → Type 0) (failed : C → ℕ) (says : V → Question → Bool → Type 0) (waits : ℕ) : Type 0 where
  pub client : V
  pub before : PostState C
  pub after : StationState C V
  pub bytes : List ℕ
  pub text : List ℕ
  -- how many lines and refusals these are, what stands behind the last line, and the commit that it began last
  pub served : Served
  pub rest : List ℕ
  pub last : Option Begun
  pub session : Session (AllowsOn gives failed says) waits (new_station before client) bytes after text served rest last

-- a session was served between these two posts of its worker: the first went on to that at its beginning, and that after its last call to the second
abbrev pub IsServedBetween : {C V : Type 0} {gives : C → Option ℕ → C → Type 0} {failed : C → ℕ} {says : V → Question → Bool → Type 0} {waits : ℕ} → PostState C → PostState C → WorkerSession gives failed says waits → Type 0
IsServedBetween first last session = PostGoesOn first session.before × PostGoesOn session.after.post last

-- each of these sessions was served between these two posts
abbrev pub AreServedBetween : {C V : Type 0} {gives : C → Option ℕ → C → Type 0} {failed : C → ℕ} {says : V → Question → Bool → Type 0} {waits : ℕ} → PostState C → PostState C → List (WorkerSession gives failed says waits) → Type 0
AreServedBetween first last sessions = All (IsServedBetween first last) sessions
