-- What the daemon of a node did in its thread.
use Rattle.std.specs.Prelude.{◌≡◌, ℕ, List, [], length, All, Option, Result, Ok, Err, IfOk, IfErr}
use Rattle.tt_daemon.specs.Daemon.{DaemonState}
use Rattle.tt_daemon.specs.Publication.{Publication, IsPublication}
use Rattle.tt_rounds.specs.Link.{Call, Gift}
use Rattle.tt_rounds.specs.Counting.{FailsBy}
use Rattle.tt_rounds.specs.Fault.{IsFirstFault, IsDaemonFault}
use Rattle.tt_rounds.specs.Fusing.{fusions_in}
use Rattle.tt_rounds.specs.Course.{rounds_of}
use Rattle.tt_rounds.specs.Making.{Makes, stand_of, answer_of}
use Rattle.tt_rounds.specs.declared.faults.NodeFault.{NodeFault}
use Rattle.tt_rounds.specs.declared.faults.NodeFault.TheVariants.{LinkFailed, ClockFailed}
use Rattle.tt_node.specs.declared.nodes.NodeEnd.{NodeEnd}
use Rattle.tt_rounds.specs.declared.rounds.Rounds.{Rounds}
use Rattle.tt_rounds.specs.declared.tallies.Tally.{Tally}
use Rattle.tt_rounds.specs.Tallies.{no_tally, refused_in}

-- a daemon that had published nothing did so many rounds: the course of them, by what this clock and this link gave, and the answer tells what was done, or the fault that ended them; then these are published
pub record RunsRounds {C L : Type 0} (gives : C → Option ℕ → C → Type 0) (clock_failed : C → ℕ) (does : L → Call → Gift → L → Type 0) (link_failed : L → ℕ)
    (rounds turns : ℕ) (daemon : DaemonState) (clock : C) (link : L) (published : List Publication) (answer : Result Rounds NodeFault) : Type 0 where
  pub daemon_after : DaemonState
  pub clock_after : C
  pub link_after : L
  pub tally : Tally
  pub course : Makes gives does (rounds_of rounds turns) clock clock_after link link_after
      (stand_of daemon [] no_tally) (stand_of daemon_after (fusions_in published) tally) (answer_of answer)
  pub each : All IsPublication published
  pub told : IfOk answer (λ did. (did.done ≡ rounds) × (did.published ≡ length published) × (did.tally ≡ tally) × (did.refused ≡ refused_in tally))
  pub link_fails : FailsBy answer LinkFailed (link_failed link) (link_failed link_after)
  pub clock_fails : FailsBy answer ClockFailed (clock_failed clock) (clock_failed clock_after)
  pub fault : IfErr answer IsFirstFault

-- a node did the rounds of its daemon, of which its end tells, with what they published; where it ended with a fault that only a daemon has, that one ended them
abbrev pub RunsNode : {C L : Type 0} → (C → Option ℕ → C → Type 0) → (C → ℕ) → (L → Call → Gift → L → Type 0) → (L → ℕ) → ℕ → ℕ → DaemonState → C → L → Result NodeEnd NodeFault → Type 0
RunsNode gives clock_failed does link_failed rounds turns daemon clock link (Ok end) = RunsRounds gives clock_failed does link_failed rounds turns daemon clock link end.published.items (Ok end.rounds)
RunsNode gives clock_failed does link_failed rounds turns daemon clock link (Err fault) =
    IsDaemonFault fault → (published : List Publication) × RunsRounds gives clock_failed does link_failed rounds turns daemon clock link published (Err fault)
