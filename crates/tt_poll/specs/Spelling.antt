-- The one spelling of each message.
use Rattle.std.specs.Prelude.{ℕ, List, ◌∷◌, ◌++◌}
use Rattle.std.specs.Int.{w64, to_be_bytes}
use Rattle.tt_span.specs.Interval.{Interval}
use Rattle.tt_poll.specs.declared.format.Format.{Format}
use Rattle.tt_poll.specs.declared.format.Format.TheVariants.{Ttp1, Ttp2}
use Rattle.tt_poll.specs.declared.messages.Message.{Message}
use Rattle.tt_poll.specs.declared.messages.Message.TheVariants.{Request, Answer}
use Rattle.tt_poll.specs.declared.messages.Message2.{Message2}
use Rattle.tt_poll.specs.declared.messages.Message2.TheVariants as two
use Rattle.tt_poll.specs.Format.{magic_of}
use Rattle.tt_poll.specs.Message.{IsRequest, IsAnswer, IsRequest2, IsAnswer2}

-- the message is in range: only these have a spelling
abbrev pub IsMessage : Message → Type 0
IsMessage (Request r) = IsRequest r
IsMessage (Answer a) = IsAnswer a

-- the same of a message with an epoch
abbrev pub IsMessage2 : Message2 → Type 0
IsMessage2 (two.Request r) = IsRequest2 r
IsMessage2 (two.Answer a) = IsAnswer2 a

-- the first sixteen bytes: the magic of the format, a byte each for the kind, the machine, the source and a zero, and
-- the nonce in eight bytes, the highest first
abbrev pub head_of : Format → ℕ → ℕ → ℕ → ℕ → List ℕ
head_of format kind machine source nonce = magic_of format ++ (kind ∷ machine ∷ source ∷ 0 ∷ to_be_bytes w64 nonce)

-- the two ends of a span, eight bytes each, the highest first
abbrev pub ends_of : Interval → List ℕ
ends_of span = to_be_bytes w64 span.lo ++ to_be_bytes w64 span.hi

-- a request is its head alone, of kind 1; an answer is a head of kind 2 and the two ends of its span
unfoldable pub spelling_of : Message → List ℕ
spelling_of (Request r) = head_of Ttp1 1 r.machine r.source r.nonce
spelling_of (Answer a) = head_of Ttp1 2 a.machine a.source a.nonce ++ ends_of a.span

-- the same with the epoch after the head, in eight bytes, the highest first
unfoldable pub spelling_of2 : Message2 → List ℕ
spelling_of2 (two.Request r) = head_of Ttp2 1 r.machine r.source r.nonce ++ to_be_bytes w64 r.epoch
spelling_of2 (two.Answer a) = head_of Ttp2 2 a.machine a.source a.nonce ++ (to_be_bytes w64 a.epoch ++ ends_of a.span)
