-- Replies that are handed over together: after each step of a session those of the step, by one write and one flush.
use Rattle.std.specs.Prelude.{◌≡◌, ◌<◌, ℕ, Bool, List, ◌++◌, length, Option}
use Rattle.std.specs.Io.KnownBytes.{Appends}
use Rattle.tt_session.specs.Lines.{HasNoEnd}
use Rattle.tt_session.specs.Steps.{Steps}
use Rattle.tt_session.specs.Talks.{TalkState, IsKept}
use Rattle.tt_session.specs.declared.calls.Call.{Call}

-- what is kept of a line is kept of some bytes of it that have come
abbrev pub IsPartOfLine : List ℕ → Type 0
IsPartOfLine kept = (come : List ℕ) × HasNoEnd come × IsKept kept come

-- a step over these bytes, whose replies were written
pub record StepsWritten {S : Type 0} (allows : S → Call → S → Type 0) (waits : ℕ) (taken : Option (List ℕ)) (before : S) (talk : TalkState) (bytes : List ℕ) (taken' : Option (List ℕ)) (after : S) (talks : TalkState) : Type 0 where
  pub text : List ℕ
  pub is_commit : Bool
  pub steps : Steps allows waits before talk bytes after talks text is_commit
  pub written : Appends taken taken' text

-- a step over the first of these bytes, whose replies, which are some, were cut
pub record StepsCut {S : Type 0} (allows : S → Call → S → Type 0) (waits : ℕ) (taken : Option (List ℕ)) (before : S) (talk : TalkState) (bytes : List ℕ) (taken' : Option (List ℕ)) (after : S) (talks : TalkState) : Type 0 where
  pub own : List ℕ
  pub unheard : List ℕ
  pub bytes_are : bytes ≡ own ++ unheard
  pub text : List ℕ
  pub is_commit : Bool
  pub steps : Steps allows waits before talk own after talks text is_commit
  pub front : List ℕ
  pub cut : List ℕ
  pub some : 0 < length text
  pub text_is : text ≡ front ++ cut
  pub written : Appends taken taken' front
