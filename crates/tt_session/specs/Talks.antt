-- A session in the middle of its bytes.
use Rattle.std.specs.Prelude.{◌≡◌, ℕ, ◌<◌, ◌≤◌, ◌⊎◌, Bool, List, [], ◌++◌, length, Option, None}
use Rattle.std.specs.Io.KnownBytes.{Appends}
use Rattle.tt_session.specs.Lines.{max_line}
use Rattle.tt_session.specs.Session.{Session, BreaksOff, FlushedBetween}
use Rattle.tt_session.specs.declared.begun.Begun.{Begun}
use Rattle.tt_session.specs.declared.calls.Call.{Call}
use Rattle.tt_session.specs.declared.serving.Served.{Served}

-- a session between two bytes: what is kept of the line so far, the last commit that was begun, and the counts of the lines that were answered
pub record TalkState : Type 0 where
  pub line : List ℕ
  pub last : Option Begun
  pub served : Served

-- a session before its first byte
abbrev pub first_talk : TalkState
first_talk = record { line = []; last = None; served = record { lines = 0; refused = 0 } }

-- what is kept of a line of which these bytes have come: all of them, or one more than it may have
abbrev pub IsKept : List ℕ → List ℕ → Type 0
IsKept kept bytes = ((kept ≡ bytes) × (length bytes ≤ max_line)) ⊎ ((max_line < length kept) × (max_line < length bytes))

-- the bytes so far were a session of this text, and what stands behind the last line feed is kept
pub record Stands {S : Type 0} (allows : S → Call → S → Type 0) (waits : ℕ) (before : S) (bytes : List ℕ) (after : S) (text : List ℕ) (talk : TalkState) : Type 0 where
  pub rest : List ℕ
  pub session : Session allows waits before bytes after text talk.served rest talk.last
  pub kept : IsKept talk.line rest

-- the bytes so far were a session, whose text was written
pub record Talks {S : Type 0} (allows : S → Call → S → Type 0) (waits : ℕ) (had taken : Option (List ℕ)) (before : S) (bytes : List ℕ) (after : S) (talk : TalkState) : Type 0 where
  pub text : List ℕ
  pub stands : Stands allows waits before bytes after text talk
  pub written : Appends had taken text

-- a session that stood before these further bytes stands behind them
abbrev pub TalksOn : {S : Type 0} → (S → Call → S → Type 0) → ℕ → Option (List ℕ) → S → TalkState → List ℕ → Option (List ℕ) → S → TalkState → Type 0
TalksOn {S} allows waits took before talk bytes takes after talks =
    (had : Option (List ℕ)) (first : S) (past : List ℕ) → Talks allows waits had took first past before talk → Talks allows waits had takes first (past ++ bytes) after talks

-- a session of some bytes broke off in its last reply, and all replies before it were flushed
pub record BreaksOffFlushed {S W : Type 0} (allows : S → Call → S → Type 0) (waits : ℕ) (shows : W → Option (List ℕ)) (flushed : W → Bool) (had : Option (List ℕ)) (old new : W) (before : S) (bytes : List ℕ) (after : S) : Type 0 where
  pub off : BreaksOff allows waits had (shows new) before bytes after
  pub kept : FlushedBetween shows flushed had old new off.told off.front

-- a session that stood before these further bytes broke off within them
abbrev pub BreaksIn : {S W : Type 0} → (S → Call → S → Type 0) → ℕ → (W → Option (List ℕ)) → (W → Bool) → W → S → TalkState → List ℕ → W → S → Type 0
BreaksIn {S} {W} allows waits shows flushed old before talk bytes new after =
    (had : Option (List ℕ)) (first : S) (past : List ℕ) → Talks allows waits had (shows old) first past before talk
    → BreaksOffFlushed allows waits shows flushed had old new first (past ++ bytes) after
