-- Devices that keep their lists, and the course over them.
use Rattle.std.specs.Prelude.{◌≡◌, ℕ, List, [], ◌∷◌, ◌++◌, Bool, Option, Result}
use Rattle.tt_rounds.specs.Link.{Packet, Call, Gift, Exchange, sent_by, sends_in}
use Rattle.tt_rounds.specs.Course.{Stand, Part}
use Rattle.tt_rounds.specs.Making.{part_with}
use Rattle.tt_rounds.specs.Reports.{Report, PartEvents, after_events}
use Rattle.tt_rounds.specs.declared.faults.NodeFault.{NodeFault}

-- a clock that keeps what it is to give, failures included, gives the first of it
abbrev pub GivesInTurn : List (Option ℕ) → Option ℕ → List (Option ℕ) → Type 0
GivesInTurn before reading after = before ≡ reading ∷ after

-- a link that keeps what it is to give, failures included, and what was sent
pub record Line : Type 0 where
  pub left : List Gift
  pub sent : List Packet

-- such a link gives the first of it, and keeps the packet that went
pub record MovesInTurn (before : Line) (call : Call) (gift : Gift) (after : Line) : Type 0 where
  pub given : before.left ≡ gift ∷ after.left
  pub sent : after.sent ≡ before.sent ++ sent_by call gift

-- the course of a part, computed from all that the clock and the link are to give, ends with exactly what they have left, and what was sent is what the course sent
pub record IsCourse (part : Part (Unit {0})) (clock clock' : List (Option ℕ)) (line line' : Line) (from to : List Exchange → Stand) (answer : Result (Unit {0}) NodeFault) : Type 0 where
  pub exchanges : List Exchange
  pub grants : List Bool
  pub course : part (from []) (record { readings = clock; gifts = line.left; grants = grants })
      ≡ part_with answer (to exchanges) (record { readings = clock'; gifts = line'.left; grants = [] })
  pub sent : line'.sent ≡ line.sent ++ sends_in exchanges

-- the same, and the report after it is that of the events of the part, computed from the same lists
pub record IsReported (part : Part (Unit {0})) (events : PartEvents) (clock clock' : List (Option ℕ)) (line line' : Line) (from to : List Exchange → Stand) (answer : Result (Unit {0}) NodeFault) (old new : Report) : Type 0 where
  pub course : IsCourse part clock clock' line line' from to answer
  pub report : new ≡ after_events (events (from []) (record { readings = clock; gifts = line.left; grants = course.grants })) old
