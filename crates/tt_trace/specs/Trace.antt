-- The text of a trace.
use Rattle.std.specs.Prelude.{ℕ, ◌+◌, List, [], ◌∷◌, ◌++◌, nat_le, ◌&&◌, if◌then◌else◌, codes, decimal}
use Rattle.tt_world.specs.declared.events.Event.{Event}
use Rattle.tt_world.specs.declared.events.Reply.{Reply}
use Rattle.tt_world.specs.declared.events.Reply.TheVariants.{Read}
use Rattle.tt_trace.specs.Event.{event_text}
use Rattle.tt_trace.specs.Reply.{reply_text}

-- what stands behind the reply to an event at a true time: that it is a reading that does not hold that time, or nothing
abbrev pub verdict_text : ℕ → Reply → List ℕ
verdict_text at (Read reading) = if nat_le reading.lo at && nat_le at reading.hi then [] else codes " wrong"
verdict_text at _ = []

-- the line of an event with this number and this reply
abbrev pub trace_line : ℕ → Event → Reply → List ℕ
trace_line number event reply =
    decimal number ++ (codes " " ++ (event_text event ++ (codes " -> " ++ (reply_text reply ++ (verdict_text event.at reply ++ 10 ∷ [])))))

-- the lines of events, the oldest first, and their replies, in this order, the first of which has this number
abbrev pub lines_from : ℕ → List Event → List Reply → List ℕ
lines_from number (event ∷ events) (reply ∷ replies) = trace_line number event reply ++ lines_from (number + 1) events replies
lines_from number _ _ = []

-- the text of a trace: the line of each event that has a reply, numbered from 0
abbrev pub trace_text_of : List Event → List Reply → List ℕ
trace_text_of events replies = lines_from 0 events replies
