-- What a daemon takes the link gave; where its source has keys, it is the message of a sealing under one of them.
use Rattle.std.specs.Prelude.{◌≡◌, ℕ, List, [], ◌∷◌, Contains}
use Rattle.tt_seal.specs.Sealing.{SealKey}
use Rattle.tt_wire.specs.Wire.{Wiring, keys_of}
use Rattle.tt_rounds.specs.Hearing.{CameFrom}
use Rattle.tt_rounds.specs.Link.{Packet, Gift, Came}
use Rattle.tt_rounds.specs.RoundLinks.{HandsUp}
use Rattle.tt_consistency.specs.Calls.{RoundsCall}
use Rattle.tt_consistency.specs.Steps.{Step, Takes}

-- where a step takes bytes as from a source, the link gave just this packet
abbrev pub CameAmong : List Gift → Step → Type 0
CameAmong gifts (Takes source bytes clock) = Contains gifts (Came (record { peer = source; bytes = bytes }))
CameAmong gifts _ = Unit {0}

-- each packet that the link gave in these calls was handed up over this wire
abbrev pub AreHeard : Wiring → List RoundsCall → Type 0
AreHeard wire [] = Unit {0}
AreHeard wire (call ∷ calls) = ((packet : Packet) → Contains call.given.gifts (Came packet) → HandsUp wire (Came packet)) × AreHeard wire calls

-- where a step takes a message as from a source with keys, it is that of a sealing under one of them; whether this came is not said
abbrev pub CameUnder : Wiring → Step → Type 0
CameUnder wire (Takes source message clock) = (first : SealKey) (others : List SealKey) → keys_of wire source ≡ first ∷ others → (bytes : List ℕ) × CameFrom (first ∷ others) wire.ahead source bytes (record { peer = source; bytes = message })
CameUnder wire _ = Unit {0}
