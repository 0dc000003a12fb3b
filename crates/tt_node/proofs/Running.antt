-- The first rounds of a daemon.
use Rattle.std.proofs.Common.{◌≡◌, ◌≤◌, ◌+◌, ℕ, List, [], ◌++◌, length, All, Option, Result, Ok, Err, IfOk, IfErr, sym, ap, ◌∙◌, subst, arith}
use Rattle.tt_daemon.specs.Daemon.{DaemonState}
use Rattle.tt_daemon.specs.Publication.{Publication, IsPublication}
use Rattle.tt_publish.specs.declared.faults.PublishFault.TheVariants.{ClockBack, UsedUp, Memory}
use Rattle.tt_rounds.specs.Link.{Call, Gift}
use Rattle.tt_rounds.specs.Counting.{FailsBy}
use Rattle.tt_rounds.specs.Fault.{IsRoundsFault, IsFirstFault}
use Rattle.tt_rounds.specs.Fusing.{fusions_in, Grows}
use Rattle.tt_rounds.specs.Course.{rounds_of}
use Rattle.tt_rounds.specs.Tallies.{no_tally, refused_in}
use Rattle.tt_rounds.specs.declared.tallies.Tally.{Tally}
use Rattle.tt_rounds.specs.Making.{Makes, stand_of, answer_of}
use Rattle.tt_node.specs.Running.{RunsRounds}
use Rattle.tt_rounds.specs.declared.faults.NodeFault.{NodeFault}
use Rattle.tt_rounds.specs.declared.faults.NodeFault.TheVariants as node
use Rattle.tt_rounds.specs.declared.rounds.Rounds.{Rounds}

-- few publications use up no numbers
first-fault : (old new : List Publication) (fault : NodeFault) → old ≡ [] → length new ≤ length old + 4294967295 → IsRoundsFault new fault → IsFirstFault fault
first-fault old new node.LinkFailed none few is = tt
first-fault old new node.ClockFailed none few is = tt
first-fault old new (node.Publish ClockBack) none few is = tt
first-fault old new (node.Publish UsedUp) none few is = let e = ap length none in omega (arith, few, is, e)
first-fault old new (node.Publish Memory) none few is = tt
first-fault old new _ none few is = absurd is

first-faults : (old new : List Publication) (answer : Result Rounds NodeFault) → old ≡ [] → length new ≤ length old + 4294967295 → IfErr answer (IsRoundsFault new) → IfErr answer IsFirstFault
first-faults old new (Ok did) none few is = tt
first-faults old new (Err fault) none few is = first-fault old new fault none few is

first-told : (rounds published : ℕ) (tally : Tally) (added : List Publication) (answer : Result Rounds NodeFault) → published ≡ 0 + length added
    → IfOk answer (λ did. did.done ≡ rounds) → IfOk answer (λ did. did.published ≡ published) → IfOk answer (λ did. (did.tally ≡ tally) × (did.refused ≡ refused_in tally))
    → IfOk answer (λ did. (did.done ≡ rounds) × (did.published ≡ length added) × (did.tally ≡ tally) × (did.refused ≡ refused_in tally))
first-told rounds published tally added (Ok did) count done publishes counts = (done, omega (arith, publishes, count), counts.0, counts.1)
first-told rounds published tally added (Err fault) count done publishes counts = tt

module _ {C L : Type 0} (gives : C → Option ℕ → C → Type 0) (clock_failed : C → ℕ) (does : L → Call → Gift → L → Type 0) (link_failed : L → ℕ) where
  pub first-rounds : (rounds turns : ℕ) (daemon daemon' : DaemonState) (clock clock' : C) (link link' : L) (old new told : List Publication) (answer : Result Rounds NodeFault) → old ≡ [] → told ≡ new
      → ((tally : Tally) × Makes gives does (rounds_of rounds turns) clock clock' link link' (stand_of daemon (fusions_in old) no_tally) (stand_of daemon' (fusions_in new) tally) (answer_of answer) × IfOk answer (λ did. (did.tally ≡ tally) × (did.refused ≡ refused_in tally)))
      → ((published : ℕ) × Grows old new 0 published × IfOk answer (λ did. did.published ≡ published))
      → IfOk answer (λ did. did.done ≡ rounds)
      → length new ≤ length old + 4294967295
      → FailsBy answer node.LinkFailed (link_failed link) (link_failed link') → FailsBy answer node.ClockFailed (clock_failed clock) (clock_failed clock')
      → IfErr answer (IsRoundsFault new)
      → RunsRounds gives clock_failed does link_failed rounds turns daemon clock link told answer
  first-rounds rounds turns daemon daemon' clock clock' link link' old new told answer none tells (tally, made, counts) (published, grew, publishes) done few link_fails clock_fails fault =
      let is : new ≡ grew.added = grew.grew ∙ ap (λ items. items ++ grew.added) none in
      subst (λ items. RunsRounds gives clock_failed does link_failed rounds turns daemon clock link items answer) (sym tells) (record {
        daemon_after = daemon';
        clock_after = clock';
        link_after = link';
        tally = tally;
        course = subst (λ items. Makes gives does (rounds_of rounds turns) clock clock' link link' (stand_of daemon (fusions_in items) no_tally) (stand_of daemon' (fusions_in new) tally) (answer_of answer)) none made;
        each = subst (λ items. All IsPublication items) (sym is) grew.each;
        told = subst (λ items. IfOk answer (λ did. (did.done ≡ rounds) × (did.published ≡ length items) × (did.tally ≡ tally) × (did.refused ≡ refused_in tally))) (sym is)
            (first-told rounds published tally grew.added answer grew.count done publishes counts);
        link_fails = link_fails;
        clock_fails = clock_fails;
        fault = first-faults old new answer none few fault;
      })
