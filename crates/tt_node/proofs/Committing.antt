-- One commit, by the steps that all services share, is one of a worker.
use Rattle.std.proofs.Common.{◌≡◌, ℕ, List, Result, Ok, Err, refl, ap, sym, subst}
use Rattle.std.specs.Prelude.{IsErr, IsErrAnd, MatchResult}
use Rattle.tt_span.specs.Interval.{Interval}
use Rattle.tt_publish.specs.declared.faults.ReadFault.{ReadFault}
use Rattle.tt_stamp.specs.Stamping.{SeatState}
use Rattle.tt_stamp.specs.Steps.{Begins, Stamps, begun_by}
use Rattle.tt_stamp.specs.declared.commits.Entry.{Entry}
use Rattle.tt_stamp.specs.declared.commits.Id.{Id}
use Rattle.tt_stamp.specs.declared.faults.BeginFault.{BeginFault}
use Rattle.tt_stamp.specs.declared.faults.StampFault.{StampFault}
use Rattle.tt_session.specs.Fault.{commit_number_of}
use Rattle.tt_session.specs.Commits.{CommitsBy, QueuesBy, numbered}
use Rattle.tt_session.specs.declared.faults.CommitFault.{CommitFault}
use Rattle.tt_node.specs.Working.{AnswersBegun, QueuesShared}

-- what a commit is answered, by its stamp and its queueing
answers_begun : (id : Id) (old : List Entry) (given : Result ℕ CommitFault) (new : List Entry) (stamped : Result ℕ StampFault) → QueuesBy QueuesShared id old given new stamped
    → AnswersBegun id old (begun_by stamped) (numbered commit_number_of given) new
answers_begun id old given new (Ok stamp) (Ok done, queues, is) =
    subst (λ (a : Result ℕ CommitFault). AnswersBegun id old (Ok stamp) (numbered commit_number_of a) new) (sym is) (refl, queues.0, queues.1)
answers_begun id old given new (Ok stamp) (Err fault, queues, is) =
    subst (λ (a : Result ℕ CommitFault). AnswersBegun id old (Ok stamp) (numbered commit_number_of a) new) (sym is) (queues.0, queues.1, (fault, refl, queues.2))
answers_begun id old given new (Err fault) (is, same) = (ap (numbered commit_number_of) is, same)

-- one commit by a reading is what a worker promises of it
pub begun_at : (id : Id) (floor : ℕ) (lease reading : Interval) (seat : SeatState) (old : List Entry) (given : Result ℕ CommitFault) (answer : Result ℕ ℕ) (seat' : SeatState) (new : List Entry)
    → CommitsBy (Stamps floor lease reading) QueuesShared id seat old given seat' new → answer ≡ numbered commit_number_of given
    → (begun : Result ℕ BeginFault) × Begins (Stamps floor lease) (Ok reading) seat begun seat' × AnswersBegun id old begun answer new
begun_at id floor lease reading seat old given answer seat' new commits is = (
  begun_by commits.stamped,
  (commits.stamped, commits.stamps_so, refl),
  subst (λ (a : Result ℕ ℕ). AnswersBegun id old (begun_by commits.stamped) a new) (sym is) (answers_begun id old given new commits.stamped commits.queues_so),
)

-- what a `?` makes of a refusal
pub refused_by : (answer : Result ℕ ℕ) (fault : CommitFault) → IsErr answer × IsErrAnd answer (λ number. number ≡ commit_number_of fault) → answer ≡ numbered commit_number_of (Err fault)
refused_by (Ok stamp) fault refused = absurd refused.1
refused_by (Err number) fault refused = ap (λ (n : ℕ). Err n) refused.1

-- what holds of the answer to a reading holds of the reading, where there was one
pub looked_at : (Looked : Result Interval ReadFault → Type 0) (looked : Result Interval ReadFault) (reading : Interval) → MatchResult looked (λ x. ◌≡◌ {A = Result Interval CommitFault} (Ok reading) (Ok x)) (λ e. ⊥)
    → Looked looked → Looked (Ok reading)
looked_at Looked (Ok x) reading same looks =
    let one : x ≡ reading = cc in
    subst (λ (r : Interval). Looked (Ok r)) one looks
looked_at Looked (Err e) reading never looks = absurd never
