-- What is told of a history.
use Rattle.std.proofs.Common.{◌≡◌, ℕ, List, Result, inl, inr, refl, subst}
use Rattle.std.specs.Prelude.{Err}
use Rattle.std.specs.Result.{result_map_both}
use Rattle.std.specs.Prelude.{MatchOption, Option, length}
use Rattle.tt_judge.specs.History.{IsStored}
use Rattle.tt_judge.specs.HistoryText.{IsHistoryOf, IsHistoryText, IsReadingFault}
use Rattle.tt_judge.specs.Terms.{IsTermJudgementOf}
use Rattle.tt_judge.specs.declared.faults.HistoryFault.{HistoryFault}
use Rattle.tt_judge.specs.declared.faults.HistoryFault.TheVariants.{BadLine, Memory}
use Rattle.tt_judge.specs.declared.history.Commit.{Commit}
use Rattle.tt_judge.specs.declared.history.CommitHistory.{CommitHistory}
use Rattle.tt_judge.specs.declared.history.Line.{Line}
use Rattle.tt_judge.specs.declared.history.ShardCommit.{ShardCommit}
use Rattle.tt_judge.specs.declared.terms.TermJudgement.{TermJudgement}
use Rattle.ttd_commands.specs.declared.faults.Fault.{Fault}
use Rattle.ttd_commands.specs.Answer.{Answer}
use Rattle.ttd_commands.specs.Command.{HasReply}
use Rattle.ttd_commands.specs.Judging.{IsJudgeReply, TellsJudgement, history_fault_of}

module _ {T : Type 0} (shows : T → Answer) (input : List ℕ) (result : Result T Fault) where
  -- what is told of the history that was read
  pub history_replied : (history : CommitHistory) → IsHistoryOf input history → ((lines : List Line) → IsHistoryText input lines → IsStored lines history) →
      (terms : Option TermJudgement) → MatchOption terms (length history.of_shards.items ≡ 0) (IsTermJudgementOf history.of_shards.items) →
      HasReply shows (TellsJudgement history.commits.items terms) result → HasReply shows (IsJudgeReply input) result
  history_replied history found only terms exact (inr memory) = inr memory
  history_replied history found only terms exact (inl told) =
      inl (record {
        bad = λ none. absurd (none found.0 found.1);
        read = λ lines is.
            let stored = only lines is in
            record {
              terms = terms;
              exact = subst (λ (cs : List ShardCommit). MatchOption terms (length cs ≡ 0) (IsTermJudgementOf cs)) stored.of_shards exact;
              told = subst (λ (cs : List Commit). TellsJudgement cs terms (result_map_both shows (λ fault. fault) result)) stored.commits told;
            };
      })

  -- why none was read
  pub history_refused : (fault : HistoryFault) → result ≡ Err (history_fault_of fault) → IsReadingFault input fault → HasReply shows (IsJudgeReply input) result
  history_refused (BadLine line) is (none, first) =
      inl (record { bad = λ no. (line, first, rw is refl); read = λ others text. absurd (none others text) })
  history_refused Memory is begins = inr is
