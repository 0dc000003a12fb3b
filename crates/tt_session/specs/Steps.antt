-- One step of a session: further bytes, the lines that end in them, and the replies to these.
use Rattle.std.specs.Prelude.{◌≡◌, ◌<◌, ◌≤◌, ◌+◌, ◌^◌, ℕ, Bool, true, false, List, [], ◌∷◌, ◌++◌, length, All, count_by, slice_index, Some}
use Rattle.std.specs.List.{flat_map}
use Rattle.tt_session.specs.Lines.{max_line, ended, HasNoEnd, Splits}
use Rattle.tt_session.specs.Requests.{Spells}
use Rattle.tt_session.specs.Replies.{text_of, is_refused}
use Rattle.tt_session.specs.Conversation.{Conversation}
use Rattle.tt_session.specs.Answers.{AnswersLines}
use Rattle.tt_session.specs.Talks.{TalkState, IsKept}
use Rattle.tt_session.specs.declared.calls.Call.{Call}
use Rattle.tt_session.specs.declared.replies.LineReply.{LineReply}
use Rattle.tt_session.specs.declared.requests.Request.TheVariants.{Commit}
use Rattle.tt_session.specs.declared.steps.Stop.{Stop}
use Rattle.tt_session.specs.declared.steps.Stop.TheVariants as stop

-- the most bytes that the replies of steps may have before they are handed over
abbrev pub step_room : ℕ
step_room = 4096

-- room in which each reply fits
abbrev pub reply_room : ℕ
reply_room = 64

-- the line is that of a commit
abbrev pub IsCommitLine : List ℕ → Type 0
IsCommitLine line = (length line ≤ max_line) × (number : ℕ) × (floor : ℕ) × Spells (ended line) (Some (Commit number floor))

-- none of the lines is that of a commit
abbrev pub HaveNoCommit : List (List ℕ) → Type 0
HaveNoCommit lines = All (λ line. ¬ IsCommitLine line) lines

-- none of the lines is that of a commit; or the last one alone is, and nothing stands behind it
abbrev pub CommitsLast : Bool → List (List ℕ) → List ℕ → Type 0
CommitsLast false lines rest = HaveNoCommit lines
CommitsLast true lines rest =
    (front : List (List ℕ)) × (line : List ℕ) × (lines ≡ front ++ line ∷ []) × HaveNoCommit front × IsCommitLine line × (rest ≡ [])

-- these bytes, behind what had come of a line, are lines and a rest; there is a conversation of which this text is exactly the replies to the lines
pub record Hears {S : Type 0} (allows : S → Call → S → Type 0) (waits : ℕ) (before : S) (talk : TalkState) (come bytes : List ℕ) (after : S) (talks : TalkState) (text : List ℕ) (is_commit : Bool) : Type 0 where
  pub lines : List (List ℕ)
  pub calls : List Call
  pub replies : List LineReply
  pub rest : List ℕ
  pub splits : Splits (come ++ bytes) lines rest
  pub talked : Conversation allows before calls after
  pub answered : AnswersLines waits talk.last lines calls replies talks.last
  pub says : text ≡ flat_map text_of replies
  pub lines_are : talks.served.lines ≡ talk.served.lines + length lines
  pub refused_are : talks.served.refused ≡ talk.served.refused + count_by is_refused replies
  pub kept : IsKept talks.line rest
  pub commits : CommitsLast is_commit lines rest

-- the session hears these bytes, whatever had come of the line that is kept
pub record Steps {S : Type 0} (allows : S → Call → S → Type 0) (waits : ℕ) (before : S) (talk : TalkState) (bytes : List ℕ) (after : S) (talks : TalkState) (text : List ℕ) (is_commit : Bool) : Type 0 where
  pub hears : (come : List ℕ) → HasNoEnd come → IsKept talk.line come → Hears allows waits before talk come bytes after talks text is_commit

-- why a step stops before this byte: it ends a line, and the reply to it might not fit, or no more lines can be counted
abbrev pub StopsBefore : Stop → ℕ → List ℕ → TalkState → Type 0
StopsBefore stop.Full byte replies talk = (byte ≡ 10) × (step_room < length replies + reply_room)
StopsBefore stop.Spent byte replies talk = (byte ≡ 10) × (2 ^ 64 ≤ talk.served.lines + 1)
StopsBefore _ byte replies talk = ⊥

-- where a step over these bytes stopped: behind all of them, behind the line of a commit, or before the end of a line
abbrev pub StopsAt : Stop → List ℕ → ℕ → List ℕ → TalkState → Type 0
StopsAt stop.Heard bytes taken replies talk = taken ≡ length bytes
StopsAt stop.Commit bytes taken replies talk = taken ≤ length bytes
StopsAt stop.Full bytes taken replies talk = (taken < length bytes) × StopsBefore stop.Full (slice_index bytes taken) replies talk
StopsAt stop.Spent bytes taken replies talk = (taken < length bytes) × StopsBefore stop.Spent (slice_index bytes taken) replies talk

-- whether a step stopped behind the line of a commit
abbrev pub is_behind_commit : Stop → Bool
is_behind_commit stop.Commit = true
is_behind_commit _ = false

-- a step that stopped there put these replies behind those that were there
pub record StepsTo {S : Type 0} (allows : S → Call → S → Type 0) (waits : ℕ) (before : S) (talk : TalkState) (bytes had : List ℕ) (after : S) (talks : TalkState) (has : List ℕ) (is_commit : Bool) : Type 0 where
  pub text : List ℕ
  pub steps : Steps allows waits before talk bytes after talks text is_commit
  pub put : has ≡ had ++ text
