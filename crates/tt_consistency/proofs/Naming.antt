-- The steps of rounds name sources that are there.
use Rattle.std.proofs.Common.{◌≡◌, ℕ, ◌<◌, ◌-◌, ◌^◌, suc, zero, Bool, true, false, cond, eqb, not, List, [], ◌∷◌, ◌++◌, length, Option, Some, None, Result, Ok, Err, refl, ap, subst, ◌∙◌, ltb-true}
use Rattle.std.specs.Prelude.{IfOk}
use Rattle.std.proofs.lemmas.Bool.{and_parts}
use Rattle.std.proofs.lemmas.List.{length-set}
use Rattle.tt_source.specs.Table.{TableState, has_source, is_back, poll_of, take_of, after_statement}
use Rattle.tt_source.specs.Statement.{Statement}
use Rattle.tt_source.specs.declared.faults.SourceFault.{SourceFault}
use Rattle.tt_source.specs.declared.faults.SourceFault.TheVariants.{NoSource, ClockBack, NoncesUsedUp}
use Rattle.tt_daemon.specs.declared.faults.DaemonFault.{DaemonFault}
use Rattle.tt_rounds.specs.Fusing.{Fusion, fusion_at}
use Rattle.tt_rounds.specs.Link.{Packet}
use Rattle.tt_rounds.specs.Course.{Given, Stand, Outcome, GoesOn, Ends, Lacks, Part, each_below, poll_at, poll_all, fuse_at, receive, next_reading, turn, round_of}
use Rattle.tt_world.proofs.Histories.Places.{all_append}
use Rattle.tt_consistency.specs.Steps.{Kept, Step, Polls, Takes, Fuses, with_table, with_fusion, after_step, after_steps}
use Rattle.tt_consistency.specs.CourseSteps.{PartSteps, no_steps, steps_after, steps_then, steps_below, polled_steps, poll_steps, is_looked_at, take_steps, next_steps, turn_steps, step_if_goes_on, fuse_steps, round_steps, rounds_steps, kept_in, IsMadeBy}
use Rattle.tt_consistency.specs.Timeline.{AreOf}
use Rattle.tt_consistency.proofs.Coursing.{Tells, tells-below, tells-reading, tells-receive, tells-poll, tells-poll_all, tells-turn, tells-round}

-- how many sources the table has
abbrev pub size : Kept → ℕ
size kept = length kept.daemon.table.sources

with_table-size : (kept : Kept) (made : Result TableState SourceFault) → IfOk made (λ table. length table.sources ≡ size kept) → size (with_table kept made) ≡ size kept
with_table-size kept (Ok table) same = same
with_table-size kept (Err fault) same = refl

with_fusion-size : (kept : Kept) (made : Result Fusion DaemonFault) → size (with_fusion kept made) ≡ size kept
with_fusion-size kept (Ok fusion) = refl
with_fusion-size kept (Err fault) = refl

polled-size : (n : ℕ) (a b c : Bool) (table : TableState) → length table.sources ≡ n
    → IfOk {E = SourceFault} (cond a (Err NoSource) (cond b (Err ClockBack) (cond c (Err NoncesUsedUp) (Ok table)))) (λ made. length made.sources ≡ n)
polled-size n true b c table same = tt
polled-size n false true c table same = tt
polled-size n false false true table same = tt
polled-size n false false false table same = same

stated-size : (table : TableState) (i clock : ℕ) (a b : Bool) (made : Result Statement SourceFault)
    → IfOk (cond a (Err NoSource) (cond b (Err ClockBack) (after_statement table i clock made))) (λ after. length after.sources ≡ length table.sources)
stated-size table i clock true b made = tt
stated-size table i clock false true made = tt
stated-size table i clock false false (Err fault) = tt
stated-size table i clock false false (Ok statement) = length-set table.sources i _

after_step-size : (kept : Kept) (step : Step) → size (after_step kept step) ≡ size kept
after_step-size kept (Polls source clock) =
    with_table-size kept (poll_of kept.daemon.table source clock)
    (polled-size (size kept) (not (has_source kept.daemon.table source)) (is_back kept.daemon.table clock) (eqb kept.daemon.table.last (2 ^ 64 - 1)) _ (length-set kept.daemon.table.sources source _))
after_step-size kept (Takes source bytes clock) =
    with_table-size kept (take_of kept.daemon.table source clock bytes)
    (stated-size kept.daemon.table source clock (not (has_source kept.daemon.table source)) (is_back kept.daemon.table clock) _)
after_step-size kept (Fuses clock) = with_fusion-size kept (fusion_at kept.daemon clock)

pub after_steps-size : (kept : Kept) (steps : List Step) → size (after_steps kept steps) ≡ size kept
after_steps-size kept [] = refl
after_steps-size kept (step ∷ steps) = after_step-size (after_steps kept steps) step ∙ after_steps-size kept steps

-- wherever a part begins, its steps name sources of the table
abbrev Names : PartSteps → Type 0
Names steps = (stand : Stand) (given : Given) → AreOf (size (kept_in stand)) (steps stand given)

named_after : {A : Type 0} (from : Kept) (steps : List Step) (outcome : Outcome A) (rest : A → PartSteps) → IsMadeBy from steps outcome
    → ((value : A) → Names (rest value)) → AreOf (size from) steps → AreOf (size from) (steps_after outcome rest ++ steps)
named_after from steps (GoesOn value stand given) rest made names named =
    let same : size (kept_in stand) ≡ size from = ap size made ∙ after_steps-size from steps in
    all_append _ (rest value stand given) steps (subst (λ (n : ℕ). AreOf n (rest value stand given)) same (names value stand given)) named
named_after from steps (Ends fault stand given) rest made names named = named
named_after from steps Lacks rest made names named = named

names-then : {A : Type 0} (part : Part A) (steps : PartSteps) (rest : A → PartSteps) → Tells part steps → Names steps → ((value : A) → Names (rest value)) → Names (steps_then part steps rest)
names-then part steps rest tells named names stand given =
    named_after (kept_in stand) (steps stand given) (part stand given) rest (tells stand given) names (named stand given)

names-none : Names no_steps
names-none stand given = tt

names-below : (n : ℕ) (part : ℕ → Part (Unit {0})) (steps : ℕ → PartSteps) → ((k : ℕ) → Tells (part k) (steps k)) → ((k : ℕ) → Names (steps k)) → Names (steps_below n part steps)
unfolding steps_below
names-below zero part steps tells each stand given = tt
names-below (suc n) part steps tells each stand given =
    names-then (each_below n part) (steps_below n part steps) (λ _. steps n) (tells-below n part steps tells) (names-below n part steps tells each) (λ _. each n) stand given

named-poll : (n clock source : ℕ) (a b c : Bool) (table : TableState) → (a ≡ true → source < n)
    → AreOf n (polled_steps clock source (cond (not a) (Err NoSource) (cond b (Err ClockBack) (cond c (Err NoncesUsedUp) (Ok table)))))
named-poll n clock source false b c table there = tt
named-poll n clock source true true c table there = tt
named-poll n clock source true false true table there = tt
named-poll n clock source true false false table there = (there refl, tt)

names-poll : (clock source : ℕ) → Names (poll_steps clock source)
names-poll clock source stand given =
    named-poll (size (kept_in stand)) clock source (has_source stand.daemon.table source) (is_back stand.daemon.table clock) (eqb stand.daemon.table.last (2 ^ 64 - 1)) _
    (λ is. ltb-true source (size (kept_in stand)) is)

named-take : (n : ℕ) (clock : ℕ) (packet : Packet) (looks : Bool) → (looks ≡ true → packet.peer < n) → AreOf n (cond looks (Takes packet.peer packet.bytes clock ∷ []) [])
named-take n clock packet true there = (there refl, tt)
named-take n clock packet false there = tt

names-take : (clock : ℕ) (packet : Packet) → Names (take_steps clock packet)
names-take clock packet stand given =
    named-take (size (kept_in stand)) clock packet (is_looked_at stand.daemon.table packet.peer clock)
    (λ is. ltb-true packet.peer (size (kept_in stand)) (and_parts (has_source stand.daemon.table packet.peer) (not (is_back stand.daemon.table clock)) is).0)

names-next : (came : Option Packet) → Names (next_steps came)
names-next None stand given = tt
names-next (Some packet) stand given = names-then next_reading no_steps (λ clock. take_steps clock packet) tells-reading names-none (λ clock. names-take clock packet) stand given

names-turn : Names turn_steps
names-turn stand given = names-then receive no_steps next_steps tells-receive names-none names-next stand given

named-fuse : (n clock : ℕ) (back : Bool) (outcome : Outcome (Unit {0})) → AreOf n (cond back [] (step_if_goes_on outcome (Fuses clock)))
named-fuse n clock true outcome = tt
named-fuse n clock false (GoesOn value stand given) = (tt, tt)
named-fuse n clock false (Ends fault stand given) = tt
named-fuse n clock false Lacks = tt

names-fuse : (clock : ℕ) → Names (fuse_steps clock)
names-fuse clock stand given = named-fuse (size (kept_in stand)) clock (is_back stand.daemon.table clock) (fuse_at clock stand given)

names-round : (turns : ℕ) → Names (round_steps turns)
names-round turns stand given =
    names-then next_reading no_steps _ tells-reading names-none
    (λ sent. names-then (poll_all sent) (λ stand. steps_below stand.daemon.config.sources (poll_at sent) (poll_steps sent) stand) _ (tells-poll_all sent)
    (λ stand. names-below stand.daemon.config.sources (poll_at sent) (poll_steps sent) (λ source. tells-poll sent source) (λ source. names-poll sent source) stand)
    (λ _. names-then (each_below turns (λ _. turn)) (steps_below turns (λ _. turn) (λ _. turn_steps)) _ (tells-below turns (λ _. turn) (λ _. turn_steps) (λ _. tells-turn))
    (names-below turns (λ _. turn) (λ _. turn_steps) (λ _. tells-turn) (λ _. names-turn))
    (λ _. names-then next_reading no_steps fuse_steps tells-reading names-none names-fuse))) stand given

pub names-rounds : (rounds turns : ℕ) (stand : Stand) (given : Given) → AreOf (length stand.daemon.table.sources) (rounds_steps rounds turns stand given)
names-rounds rounds turns stand given =
    names-below rounds (λ _. round_of turns) (λ _. round_steps turns) (λ _. tells-round turns) (λ _. names-round turns) stand given
