-- What a call did, as a part of a course: with any past, and with anything that is still to be given.
use Rattle.std.specs.Prelude.{◌≡◌, ℕ, Bool, List, [], ◌++◌, Option, Result, Ok, Err}
use Rattle.tt_daemon.specs.Daemon.{DaemonState}
use Rattle.tt_rounds.specs.Link.{Call, Gift, Exchange, gifts_in, ClockGives, LinkDoes}
use Rattle.tt_rounds.specs.Fusing.{Fusion}
use Rattle.tt_rounds.specs.Course.{Given, Stand, Outcome, GoesOn, Ends, Part}
use Rattle.tt_rounds.specs.declared.faults.NodeFault.{NodeFault}
use Rattle.tt_rounds.specs.declared.rounds.Rounds.{Rounds}
use Rattle.tt_rounds.specs.declared.tallies.Tally.{Tally}

-- what was given, and then the rest
abbrev pub before_rest : Given → Given → Given
before_rest given rest = record {
  readings = given.readings ++ rest.readings;
  gifts = given.gifts ++ rest.gifts;
  grants = given.grants ++ rest.grants;
}

-- where a course stands that has had these exchanges
abbrev pub stand_of : DaemonState → List Fusion → Tally → List Exchange → Stand
stand_of daemon published tally exchanges = record { daemon = daemon; published = published; exchanges = exchanges; tally = tally }

-- what comes of a part that has this answer
abbrev pub part_with : {A : Type 0} → Result A NodeFault → Stand → Given → Outcome A
part_with (Ok value) stand given = GoesOn value stand given
part_with (Err fault) stand given = Ends fault stand given

-- by what was given, with these exchanges, a part leads from the one stand to the other and to this answer: whatever exchanges were before, and whatever is given after
pub record Leads {A : Type 0} (part : Part A) (given : Given) (exchanges : List Exchange) (from to : List Exchange → Stand) (answer : Result A NodeFault) : Type 0 where
  pub leads : (past : List Exchange) (rest : Given) → part (from past) (before_rest given rest) ≡ part_with answer (to (past ++ exchanges)) rest

-- a part made the one clock and link of the other, and leads from the one stand to the other, by just what these gave
pub record Makes {A C L : Type 0} (gives : C → Option ℕ → C → Type 0) (does : L → Call → Gift → L → Type 0) (part : Part A) (clock clock' : C) (link link' : L) (from to : List Exchange → Stand) (answer : Result A NodeFault) : Type 0 where
  pub readings : List (Option ℕ)
  pub exchanges : List Exchange
  pub grants : List Bool
  pub gave : ClockGives gives clock readings clock'
  pub did : LinkDoes does link exchanges link'
  pub course : Leads part (record { readings = readings; gifts = gifts_in exchanges; grants = grants }) exchanges from to answer

-- the same of a part that asks the link alone
pub record MakesByLink {A L : Type 0} (does : L → Call → Gift → L → Type 0) (part : Part A) (link link' : L) (from to : List Exchange → Stand) (answer : Result A NodeFault) : Type 0 where
  pub exchanges : List Exchange
  pub did : LinkDoes does link exchanges link'
  pub course : Leads part (record { readings = []; gifts = gifts_in exchanges; grants = [] }) exchanges from to answer

-- the same of a part that asks for memory alone
pub record MakesByMemory {A : Type 0} (part : Part A) (from to : List Exchange → Stand) (answer : Result A NodeFault) : Type 0 where
  pub grants : List Bool
  pub course : Leads part (record { readings = []; gifts = []; grants = grants }) [] from to answer

-- the answer of the course of all rounds
abbrev pub answer_of : Result Rounds NodeFault → Result (Unit {0}) NodeFault
answer_of (Ok _) = Ok tt
answer_of (Err fault) = Err fault
