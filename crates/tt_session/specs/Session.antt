-- A whole session, and what it reads and writes.
use Rattle.std.specs.Prelude.{◌≡◌, ℕ, Bool, true, List, [], ◌++◌, length, count_by, Option, None}
use Rattle.std.specs.List.{flat_map}
use Rattle.std.specs.Io.KnownBytes.{Appends, Consumes}
use Rattle.tt_session.specs.Lines.{Splits}
use Rattle.tt_session.specs.Conversation.{Conversation}
use Rattle.tt_session.specs.Answers.{AnswersLines}
use Rattle.tt_session.specs.Replies.{text_of, is_refused}
use Rattle.tt_session.specs.declared.begun.Begun.{Begun}
use Rattle.tt_session.specs.declared.calls.Call.{Call}
use Rattle.tt_session.specs.declared.replies.LineReply.{LineReply}
use Rattle.tt_session.specs.declared.serving.Served.{Served}

-- from one state of the service to another there is a conversation of which this text is exactly the replies to the lines of the bytes; the rest stands behind their last line feed
pub record Session {S : Type 0} (allows : S → Call → S → Type 0) (waits : ℕ) (before : S) (bytes : List ℕ) (after : S) (text : List ℕ) (served : Served) (rest : List ℕ) (last : Option Begun) : Type 0 where
  pub lines : List (List ℕ)
  pub calls : List Call
  pub replies : List LineReply
  pub splits : Splits bytes lines rest
  pub talked : Conversation allows before calls after
  pub answered : AnswersLines waits None lines calls replies last
  pub says : text ≡ flat_map text_of replies
  pub lines_are : served.lines ≡ length lines
  pub refused_are : served.refused ≡ count_by is_refused replies

-- the bytes of a session were read, and its text was written
pub record Serves {S : Type 0} (allows : S → Call → S → Type 0) (waits : ℕ) (left left' taken taken' : Option (List ℕ)) (before after : S) (served : Served) : Type 0 where
  pub bytes : List ℕ
  pub text : List ℕ
  pub rest : List ℕ
  pub last : Option Begun
  pub session : Session allows waits before bytes after text served rest last
  pub read : Consumes left left' bytes
  pub written : Appends taken taken' text

-- a session of some bytes, which end with a line feed: of its text all was written, but for the last reply, of which a front was
pub record BreaksOff {S : Type 0} (allows : S → Call → S → Type 0) (waits : ℕ) (taken taken' : Option (List ℕ)) (before : S) (bytes : List ℕ) (after : S) : Type 0 where
  pub heard : List ℕ
  pub unheard : List ℕ
  pub told : List ℕ
  pub reply : LineReply
  pub front : List ℕ
  pub cut : List ℕ
  pub served : Served
  pub last : Option Begun
  pub bytes_are : bytes ≡ heard ++ unheard
  pub session : Session allows waits before heard after (told ++ text_of reply) served [] last
  pub reply_is : text_of reply ≡ front ++ cut
  pub written : Appends taken taken' (told ++ front)

-- bytes were read, and the session of the first of them broke off in its last reply
pub record Breaks {S : Type 0} (allows : S → Call → S → Type 0) (waits : ℕ) (left left' taken taken' : Option (List ℕ)) (before after : S) : Type 0 where
  pub bytes : List ℕ
  pub read : Consumes left left' bytes
  pub breaks : BreaksOff allows waits taken taken' before bytes after

-- a writer went from one state to another: where it held nothing back before, it holds nothing back after
abbrev pub StaysFlushed : {W : Type 0} → (W → Bool) → W → W → Type 0
StaysFlushed flushed old new = flushed old ≡ true → flushed new ≡ true

-- the writer took one text and flushed it, and behind it another, of which it may hold back some
pub record FlushedBetween {W : Type 0} (shows : W → Option (List ℕ)) (flushed : W → Bool) (taken : Option (List ℕ)) (old new : W) (told front : List ℕ) : Type 0 where
  pub mid : W
  pub stays : StaysFlushed flushed old mid
  pub had : Appends taken (shows mid) told
  pub has : Appends (shows mid) (shows new) front

-- bytes were read, and the session of the first of them broke off in its last reply; all replies before it were flushed
pub record BreaksFlushed {S W : Type 0} (allows : S → Call → S → Type 0) (waits : ℕ) (left left' : Option (List ℕ)) (shows : W → Option (List ℕ)) (flushed : W → Bool) (before after : S) (old new : W) : Type 0 where
  pub broke : Breaks allows waits left left' (shows old) (shows new) before after
  pub kept : FlushedBetween shows flushed (shows old) old new broke.breaks.told broke.breaks.front
