-- The replies that a session may give to a line.
use Rattle.std.specs.Prelude.{◌≡◌, ◌⊎◌, ◌<◌, ◌^◌, ℕ, List}
use Rattle.tt_span.specs.Interval.{Interval, IsInterval}
use Rattle.tt_text.specs.Reading.{IsNumber}
use Rattle.tt_session.specs.Requests.{IsRequest, spelling_of}
use Rattle.tt_session.specs.Replies.{text_of}
use Rattle.tt_session.specs.declared.requests.Request.{Request}
use Rattle.tt_session.specs.declared.requests.Request.TheVariants as asks
use Rattle.tt_session.specs.declared.replies.LineReply.{LineReply}
use Rattle.tt_session.specs.declared.replies.LineReply.TheVariants as says

-- the numbers of the reply are in range: a reading is an interval of times, a commit's number, its stamp and the ends of a lease fit a line, and a refusal has a
-- number below 2^16
abbrev pub IsReply : LineReply → Type 0
IsReply (says.Now reading) = IsInterval reading
IsReply says.Yes = Unit {0}
IsReply says.No = Unit {0}
IsReply (says.Committed number stamp) = IsNumber number × IsNumber stamp
IsReply (says.Waiting number stamp) = IsNumber number × IsNumber stamp
IsReply (says.Leased lo hi) = IsNumber lo × IsNumber hi
IsReply (says.Refused number) = number < 2 ^ 16

-- the reply is of the kind that the request asks for, and for a commit it names that commit
abbrev pub Suits : Request → LineReply → Type 0
Suits asks.Now (says.Now reading) = Unit {0}
Suits (asks.After time) says.Yes = Unit {0}
Suits (asks.After time) says.No = Unit {0}
Suits (asks.Before time) says.Yes = Unit {0}
Suits (asks.Before time) says.No = Unit {0}
Suits (asks.Commit number floor) (says.Committed named stamp) = named ≡ number
Suits (asks.Commit number floor) (says.Waiting named stamp) = named ≡ number
Suits _ _ = ⊥

-- the reply refuses, by a number that a refusal has
abbrev pub IsRefusal : List ℕ → Type 0
IsRefusal reply = (number : ℕ) × IsReply (says.Refused number) × (reply ≡ text_of (says.Refused number))

-- the reply gives what the line asks for
abbrev pub GivesAsked : List ℕ → List ℕ → Type 0
GivesAsked line reply =
    (request : Request) × (answer : LineReply) × IsRequest request × IsReply answer × (line ≡ spelling_of request) × (reply ≡ text_of answer)
    × Suits request answer

-- a session may give this reply to this line, whatever was asked before; both with their line feed: it refuses, or it gives what the
-- line asks for
abbrev pub MayAnswer : List ℕ → List ℕ → Type 0
MayAnswer line reply = IsRefusal reply ⊎ GivesAsked line reply

-- the reply is a reading
abbrev pub IsReading : List ℕ → Type 0
IsReading reply = (reading : Interval) × IsReply (says.Now reading) × (reply ≡ text_of (says.Now reading))

-- the reply is `yes` or `no`
abbrev pub IsYesOrNo : List ℕ → Type 0
IsYesOrNo reply = (reply ≡ text_of says.Yes) ⊎ (reply ≡ text_of says.No)

-- the line asks whether a time has passed, or whether it has not arrived
abbrev pub IsQuestion : List ℕ → Type 0
IsQuestion line = (time : ℕ) × IsNumber time × ((line ≡ spelling_of (asks.After time)) ⊎ (line ≡ spelling_of (asks.Before time)))

-- the reply tells of the commit with this number that it is released, or that it is pending
abbrev pub TellsOf : ℕ → List ℕ → Type 0
TellsOf number reply =
    (stamp : ℕ) × IsNumber stamp × ((reply ≡ text_of (says.Committed number stamp)) ⊎ (reply ≡ text_of (says.Waiting number stamp)))

-- the line asks for a commit, of which the reply tells
abbrev pub TellsOfAsked : List ℕ → List ℕ → Type 0
TellsOfAsked line reply =
    (number : ℕ) × (floor : ℕ) × IsRequest (asks.Commit number floor) × (line ≡ spelling_of (asks.Commit number floor)) × TellsOf number reply
