-- Events as text.
use Rattle.std.specs.Prelude.{ℕ, List, [], ◌∷◌, ◌++◌, codes}
use Rattle.hex.specs.Hex.{encode_lower}
use Rattle.tt_world.specs.declared.events.Event.{Event}
use Rattle.tt_world.specs.declared.events.Action.{Action}
use Rattle.tt_world.specs.declared.events.Action.TheVariants as does
use Rattle.tt_trace.specs.Phrase.{phrase}

-- a forged packet: its numbers, and its bytes in hex behind a space
abbrev pub forged_text : List ℕ → List ℕ → List ℕ
forged_text numbers payload = phrase (codes "forge") numbers ++ (codes " " ++ encode_lower payload)

-- what happens at a true time: its word, the time, and the numbers of what happens
abbrev pub action_text : ℕ → Action → List ℕ
action_text at (does.Send machine source clock) = phrase (codes "send") (at ∷ machine ∷ source ∷ clock ∷ [])
action_text at (does.Answer packet span) = phrase (codes "answer") (at ∷ packet ∷ span.lo ∷ span.hi ∷ [])
action_text at (does.Forge machine source payload) = forged_text (at ∷ machine ∷ source ∷ []) payload
action_text at (does.Deliver packet clock) = phrase (codes "deliver") (at ∷ packet ∷ clock ∷ [])
action_text at (does.Fuse machine clock) = phrase (codes "fuse") (at ∷ machine ∷ clock ∷ [])
action_text at (does.Read machine worker clock publication) = phrase (codes "read") (at ∷ machine ∷ worker ∷ clock ∷ publication ∷ [])
action_text at (does.Arrive machine worker id floor) = phrase (codes "arrive") (at ∷ machine ∷ worker ∷ id.session ∷ id.number ∷ floor ∷ [])
action_text at (does.Stamp machine worker) = phrase (codes "stamp") (at ∷ machine ∷ worker ∷ [])
action_text at (does.Queue machine worker) = phrase (codes "queue") (at ∷ machine ∷ worker ∷ [])
action_text at (does.Restart machine clock) = phrase (codes "restart") (at ∷ machine ∷ clock ∷ [])
action_text at (does.Lease machine lease) = phrase (codes "lease") (at ∷ machine ∷ lease.lo ∷ lease.hi ∷ [])
action_text at (does.Release machine worker) = phrase (codes "release") (at ∷ machine ∷ worker ∷ [])

-- an event, with no line feed behind it
abbrev pub event_text : Event → List ℕ
event_text event = action_text event.at event.action

-- the line of an event
abbrev pub event_line : Event → List ℕ
event_line event = event_text event ++ 10 ∷ []
