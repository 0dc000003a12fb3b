-- What is known of the history of a shared book, newest first.
use Rattle.std.specs.Prelude.{◌≡◌, ◌++◌, List, Option, Some, None}
use Rattle.tt_stamp.specs.declared.commits.Entry.{Entry}
use Rattle.tt_stamp.specs.declared.faults.BookFault.{BookFault}
use Rattle.tt_stamp.specs.declared.faults.BookFault.TheVariants.{Memory}

-- a history goes on from an earlier one: it has those entries, and in front of them what came since
abbrev pub GoesOn : List Entry → List Entry → Type 0
GoesOn earlier later = (since : List Entry) × (later ≡ since ++ earlier)

-- a commit is refused by this fault, where this is the first fault that a history finds in it: by that one, and where there is none, for want of memory
abbrev pub AnswersFault : Option BookFault → BookFault → Type 0
AnswersFault (Some first) fault = fault ≡ first
AnswersFault None fault = fault ≡ Memory
