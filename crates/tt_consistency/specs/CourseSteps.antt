-- The steps of the course of a daemon's rounds. Each list of steps has the newest first.
use Rattle.std.specs.Prelude.{◌≡◌, ℕ, zero, suc, ◌&&◌, not, if◌then◌else◌, List, [], ◌∷◌, ◌++◌, map, Bool, Option, Some, None, Result, Ok, Err}
use Rattle.tt_source.specs.Table.{TableState, has_source, is_back, poll_of}
use Rattle.tt_source.specs.declared.faults.SourceFault.{SourceFault}
use Rattle.tt_rounds.specs.Link.{Packet}
use Rattle.tt_rounds.specs.Course.{Given, Stand, Outcome, GoesOn, Ends, Lacks, Part, each_below, next_reading, poll_at, poll_all, receive, turn, fuse_at, round_of}
use Rattle.tt_consistency.specs.Steps.{Kept, Step, Polls, Takes, Fuses, fused_span, after_steps}

-- the steps that a part of a course makes, by where it begins and what it is given
abbrev pub PartSteps : Type 0
PartSteps = Stand → Given → List Step

-- none
abbrev pub no_steps : PartSteps
no_steps stand given = []

-- the steps of the next part, where the one before it goes on
abbrev pub steps_after : {A : Type 0} → Outcome A → (A → PartSteps) → List Step
steps_after (GoesOn value stand given) next = next value stand given
steps_after (Ends fault stand given) next = []
steps_after Lacks next = []

-- the steps of a part, and then those of the next
abbrev pub steps_then : {A : Type 0} → Part A → PartSteps → (A → PartSteps) → PartSteps
steps_then part steps next stand given = steps_after (part stand given) next ++ steps stand given

-- the steps of a part for each number below this one
unfoldable pub steps_below : ℕ → (ℕ → Part (Unit {0})) → (ℕ → PartSteps) → PartSteps
steps_below zero part steps = no_steps
steps_below (suc n) part steps = steps_then (each_below n part) (steps_below n part steps) (λ _. steps n)

-- a poll is a step unless the table refused it, also where the link then failed: its nonce is used
abbrev pub polled_steps : ℕ → ℕ → Result TableState SourceFault → List Step
polled_steps clock source (Ok table) = Polls source clock ∷ []
polled_steps clock source (Err fault) = []

-- the step of the poll of a source
abbrev pub poll_steps : ℕ → ℕ → PartSteps
poll_steps clock source stand given = polled_steps clock source (poll_of stand.daemon.table source clock)

-- whether the table looks at what comes from this source at this clock reading: the source is there, and the reading does not go back
abbrev pub is_looked_at : TableState → ℕ → ℕ → Bool
is_looked_at table source clock = has_source table source && not (is_back table clock)

-- a packet is a step if the table looks at it, whether it is then taken or refused
abbrev pub take_steps : ℕ → Packet → PartSteps
take_steps clock packet stand given =
    if is_looked_at stand.daemon.table packet.peer clock then Takes packet.peer packet.bytes clock ∷ [] else []

-- the step of what came, if something did, at the next reading
abbrev pub next_steps : Option Packet → PartSteps
next_steps None = no_steps
next_steps (Some packet) = steps_then next_reading no_steps (λ clock. take_steps clock packet)

-- the step of one turn
abbrev pub turn_steps : PartSteps
turn_steps = steps_then receive no_steps next_steps

-- a step where a part goes on, none where it ends the course
abbrev pub step_if_goes_on : {A : Type 0} → Outcome A → Step → List Step
step_if_goes_on (GoesOn value stand given) step = step ∷ []
step_if_goes_on (Ends fault stand given) step = []
step_if_goes_on Lacks step = []

-- a fusion is a step if it was published, or too few sources were known, or no time was possible; it is none where the reading goes back, nor where what was fused was not published, which ends the course
abbrev pub fuse_steps : ℕ → PartSteps
fuse_steps clock stand given = if is_back stand.daemon.table clock then [] else step_if_goes_on (fuse_at clock stand given) (Fuses clock)

-- the steps of one round: a poll of each source at one reading, then what came, then a fusion
abbrev pub round_steps : ℕ → PartSteps
round_steps turns =
    steps_then next_reading no_steps (λ sent.
    steps_then (poll_all sent) (λ stand. steps_below stand.daemon.config.sources (poll_at sent) (poll_steps sent) stand) (λ _.
    steps_then (each_below turns (λ _. turn)) (steps_below turns (λ _. turn) (λ _. turn_steps)) (λ _.
    steps_then next_reading no_steps fuse_steps)))

-- the steps of all rounds
abbrev pub rounds_steps : ℕ → ℕ → PartSteps
rounds_steps rounds turns = steps_below rounds (λ _. round_of turns) (λ _. round_steps turns)

-- what is kept of a daemon where its course stands
abbrev pub kept_in : Stand → Kept
kept_in stand = record { daemon = stand.daemon; published = map fused_span stand.published }

-- what a part of a course leaves, where enough was given, is what these steps make
abbrev pub IsMadeBy : {A : Type 0} → Kept → List Step → Outcome A → Type 0
IsMadeBy from steps (GoesOn value stand given) = kept_in stand ≡ after_steps from steps
IsMadeBy from steps (Ends fault stand given) = kept_in stand ≡ after_steps from steps
IsMadeBy from steps Lacks = Unit {0}
