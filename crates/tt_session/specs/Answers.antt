-- Which calls of the service a line takes, what it is answered, and what is then kept of the last commit.
use Rattle.std.specs.Prelude.{◌≡◌, ℕ, ◌<◌, ◌≤◌, ◌⊎◌, Bool, true, false, MatchBool, List, [], ◌∷◌, ◌++◌, length, replicate, Option, Some, None, Result, Ok, Err}
use Rattle.std.specs.Ordering.{nat_cmp}
use Rattle.std.specs.declared.cmp.Ordering.{Ordering}
use Rattle.std.specs.declared.cmp.Ordering.TheVariants.{Less, Equal, Greater}
use Rattle.tt_span.specs.Interval.{Interval}
use Rattle.tt_publish.specs.Reading.{HasPassed, IsToCome}
use Rattle.tt_session.specs.Fault.{line_number_of}
use Rattle.tt_session.specs.Lines.{max_line, ended}
use Rattle.tt_session.specs.Requests.{Spells}
use Rattle.tt_session.specs.declared.begun.Begun.{Begun}
use Rattle.tt_session.specs.declared.calls.Call.{Call}
use Rattle.tt_session.specs.declared.calls.Call.TheVariants as call
use Rattle.tt_session.specs.declared.faults.LineFault.{LineFault}
use Rattle.tt_session.specs.declared.faults.LineFault.TheVariants.{BadLine, LongLine, OldId, OtherWaits}
use Rattle.tt_session.specs.declared.replies.LineReply.{LineReply}
use Rattle.tt_session.specs.declared.replies.LineReply.TheVariants.{Now, Yes, No, Committed, Waiting, Leased, Refused}
use Rattle.tt_session.specs.declared.requests.Request.{Request}
use Rattle.tt_session.specs.declared.requests.Request.TheVariants as request

-- the session itself refuses: no call of the service, and the last commit stays
pub record Refuses (fault : LineFault) (last : Option Begun) (calls : List Call) (reply : LineReply) (after : Option Begun) : Type 0 where
  pub uncalled : calls ≡ []
  pub says : reply ≡ Refused (line_number_of fault)
  pub same : after ≡ last

-- release steps until one says yes or is refused, at most this many: the answer is yes, the refusal, or no where each step said no
abbrev pub Passes : ℕ → ℕ → List Call → Result Bool ℕ → Type 0
Passes waits number calls (Ok true) = (k : ℕ) × (k < waits) × (calls ≡ replicate k (call.Pass number (Ok false)) ++ call.Pass number (Ok true) ∷ [])
Passes waits number calls (Ok false) = calls ≡ replicate waits (call.Pass number (Ok false))
Passes waits number calls (Err fault) = (k : ℕ) × (k < waits) × (calls ≡ replicate k (call.Pass number (Ok false)) ++ call.Pass number (Err fault) ∷ [])

-- what a pending commit with this stamp is answered after its release steps
abbrev pub release_reply : ℕ → ℕ → Result Bool ℕ → LineReply
release_reply number stamp (Ok true) = Committed number stamp
release_reply number stamp (Ok false) = Waiting number stamp
release_reply number stamp (Err fault) = Refused fault

-- whether the session knows after its release steps that the commit is released
abbrev pub is_yes : Result Bool ℕ → Bool
is_yes (Ok answer) = answer
is_yes (Err fault) = false

-- a commit that was begun is released, is still pending, or its release step was refused: it stays the last one in any case
pub record Releases (waits number stamp : ℕ) (calls : List Call) (reply : LineReply) (after : Option Begun) : Type 0 where
  pub answer : Result Bool ℕ
  pub passes : Passes waits number calls answer
  pub says : reply ≡ release_reply number stamp answer
  pub keeps : after ≡ Some (record { number = number; stamp = stamp; is_released = is_yes answer })

-- a commit that was begun before goes on: one that is known as released takes no call
abbrev pub GoesOn : ℕ → Begun → List Call → LineReply → Option Begun → Type 0
GoesOn waits begun calls reply after =
    MatchBool begun.is_released
    ((calls ≡ []) × (reply ≡ Committed begun.number begun.stamp) × (after ≡ Some begun))
    (Releases waits begun.number begun.stamp calls reply after)

-- a commit is begun by the service, and then released where it may be; where the service refuses, the last commit stays
abbrev pub BeginsWith : ℕ → ℕ → ℕ → Option Begun → List Call → LineReply → Option Begun → Result ℕ ℕ → Type 0
BeginsWith waits number floor last calls reply after (Ok stamp) =
    (steps : List Call) × (calls ≡ call.Begin number floor (Ok stamp) ∷ steps) × Releases waits number stamp steps reply after
BeginsWith waits number floor last calls reply after (Err fault) =
    (calls ≡ call.Begin number floor (Err fault) ∷ []) × (reply ≡ Refused fault) × (after ≡ last)

abbrev pub Begins : ℕ → ℕ → ℕ → Option Begun → List Call → LineReply → Option Begun → Type 0
Begins waits number floor last calls reply after =
    (answer : Result ℕ ℕ) × BeginsWith waits number floor last calls reply after answer

-- a commit after another, by how their numbers compare
abbrev pub CommitsBy : Ordering → ℕ → ℕ → ℕ → Begun → List Call → LineReply → Option Begun → Type 0
CommitsBy Less waits number floor begun calls reply after = Refuses OldId (Some begun) calls reply after
CommitsBy Equal waits number floor begun calls reply after = GoesOn waits begun calls reply after
CommitsBy Greater waits number floor begun calls reply after =
    MatchBool begun.is_released
    (Begins waits number floor (Some begun) calls reply after)
    (Refuses OtherWaits (Some begun) calls reply after)

-- a commit, after the last one if there is one
abbrev pub Commits : ℕ → ℕ → ℕ → Option Begun → List Call → LineReply → Option Begun → Type 0
Commits waits number floor None calls reply after = Begins waits number floor None calls reply after
Commits waits number floor (Some begun) calls reply after =
    CommitsBy (nat_cmp number begun.number) waits number floor begun calls reply after

-- the reply says whether this holds
abbrev pub Says : Type 0 → LineReply → Type 0
Says P Yes = P
Says P No = ¬ P
Says P _ = ⊥

-- the reply to a reading, or to its refusal
abbrev pub SaysOf : (Interval → LineReply → Type 0) → Result Interval ℕ → LineReply → Type 0
SaysOf Of (Ok reading) reply = Of reading reply
SaysOf Of (Err fault) reply = reply ≡ Refused fault

-- one reading is taken, and the reply goes by it
pub record Reads (Of : Interval → LineReply → Type 0) (last : Option Begun) (calls : List Call) (reply : LineReply) (after : Option Begun) : Type 0 where
  pub answer : Result Interval ℕ
  pub called : calls ≡ call.Now answer ∷ []
  pub says : SaysOf Of answer reply
  pub same : after ≡ last

-- what a lease is answered after the call that was to set it
abbrev pub leased_reply : ℕ → ℕ → Result (Unit {0}) ℕ → LineReply
leased_reply lo hi (Ok done) = Leased lo hi
leased_reply lo hi (Err fault) = Refused fault

-- the service is called once to set the lease, its answer is the reply, and the last commit stays
pub record SetsLease (lo hi : ℕ) (last : Option Begun) (calls : List Call) (reply : LineReply) (after : Option Begun) : Type 0 where
  pub answer : Result (Unit {0}) ℕ
  pub called : calls ≡ call.Lease lo hi answer ∷ []
  pub says : reply ≡ leased_reply lo hi answer
  pub same : after ≡ last

-- a request takes these calls of the service and is answered this
abbrev pub Answers : ℕ → Option Begun → Request → List Call → LineReply → Option Begun → Type 0
Answers waits last request.Now calls reply after = Reads (λ reading reply. reply ≡ Now reading) last calls reply after
Answers waits last (request.After t) calls reply after = Reads (λ reading reply. Says (HasPassed reading t) reply) last calls reply after
Answers waits last (request.Before t) calls reply after = Reads (λ reading reply. Says (IsToCome reading t) reply) last calls reply after
Answers waits last (request.Commit number floor) calls reply after = Commits waits number floor last calls reply after
Answers waits last (request.Lease lo hi) calls reply after = SetsLease lo hi last calls reply after

-- the same for what a line spells, if it is a request
abbrev pub AnswersSpelled : ℕ → Option Begun → Option Request → List Call → LineReply → Option Begun → Type 0
AnswersSpelled waits last None calls reply after = Refuses BadLine last calls reply after
AnswersSpelled waits last (Some request) calls reply after = Answers waits last request calls reply after

-- a line takes these calls of the service and is answered this: a long one is refused, whatever it spells
abbrev pub AnswersLine : ℕ → Option Begun → List ℕ → List Call → LineReply → Option Begun → Type 0
AnswersLine waits last line calls reply after =
    ((max_line < length line) × Refuses LongLine last calls reply after)
    ⊎ ((length line ≤ max_line) × ((request : Option Request) × Spells (ended line) request × AnswersSpelled waits last request calls reply after))

-- lines are answered one after the other, each by calls of its own
abbrev pub AnswersLines : ℕ → Option Begun → List (List ℕ) → List Call → List LineReply → Option Begun → Type 0
AnswersLines waits last [] calls [] after = (calls ≡ []) × (after ≡ last)
AnswersLines waits last [] calls (reply ∷ replies) after = ⊥
AnswersLines waits last (line ∷ lines) calls [] after = ⊥
AnswersLines waits last (line ∷ lines) calls (reply ∷ replies) after =
    (own : List Call) × (later : List Call) × (mid : Option Begun) × (calls ≡ own ++ later)
    × AnswersLine waits last line own reply mid × AnswersLines waits mid lines later replies after
