-- What a machine's clients do, as contracts see it.
use Rattle.std.specs.Prelude.{Bool}
use Rattle.tt_connections.specs.declared.presence.Question.{Question}

-- a client may leave at any time, and a machine may be broken at any time
abbrev pub ClientSays : Unit {0} → Question → Bool → Type 0
ClientSays client question answer = Unit {0}
