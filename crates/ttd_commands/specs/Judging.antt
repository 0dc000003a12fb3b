-- What `judge` answers to its input.
use Rattle.std.specs.Prelude.{◌≡◌, ℕ, List, length, MatchOption, Option, Some, None, Bool, true, if◌then◌else◌, ◌&&◌, nat_eq, Result, Ok, Err}
use Rattle.tt_judge.specs.Consistency.{IsConsistent, IsFirstViolation, violations_of}
use Rattle.tt_judge.specs.History.{commits_of, shard_commits_of}
use Rattle.tt_judge.specs.HistoryText.{IsFirstBadLine, IsHistoryText, IsNoHistoryText}
use Rattle.tt_judge.specs.Terms.{IsTermJudgementOf}
use Rattle.tt_judge.specs.Text.{text_of}
use Rattle.tt_judge.specs.declared.faults.HistoryFault.{HistoryFault}
use Rattle.tt_judge.specs.declared.faults.HistoryFault.TheVariants.{BadLine, Memory as NoMemoryToJudge}
use Rattle.tt_judge.specs.declared.history.Commit.{Commit}
use Rattle.tt_judge.specs.declared.judging.Judgement.{Judgement}
use Rattle.tt_judge.specs.declared.history.Line.{Line}
use Rattle.tt_judge.specs.declared.terms.TermJudgement.{TermJudgement}
use Rattle.ttd_commands.specs.Answer.{Answer}
use Rattle.ttd_words.specs.declared.ending.Status.{Status}
use Rattle.ttd_words.specs.declared.ending.Status.TheVariants.{Fine, Broken}
use Rattle.ttd_commands.specs.declared.faults.Fault.{Fault}
use Rattle.ttd_commands.specs.declared.faults.Fault.TheVariants.{Memory, History}

-- What the program says where no history was read.
abbrev pub history_fault_of : HistoryFault → Fault
history_fault_of NoMemoryToJudge = Memory
history_fault_of fault = History fault

-- Whether no commit of a shard is in conflict with another one of it.
abbrev pub are_terms_in_order : Option TermJudgement → Bool
are_terms_in_order None = true
are_terms_in_order (Some terms) = nat_eq terms.terms.count 0 && nat_eq terms.stamps.count 0

-- Whether no commit is violated, and none of a shard is in conflict with another one of it.
abbrev pub is_in_order : Judgement → Option TermJudgement → Bool
is_in_order judgement terms = nat_eq judgement.violations 0 && are_terms_in_order terms

-- How the program ends after a judgement: as fine where all is in order.
abbrev pub status_after : Judgement → Option TermJudgement → Status
status_after judgement terms = if is_in_order judgement terms then Fine else Broken

-- The judgement is that of these commits: how many there are, how many of them are violated, and the first of these.
pub record IsJudgementOf (history : List Commit) (judgement : Judgement) : Type 0 where
  pub commits : judgement.commits ≡ length history
  pub violations : judgement.violations ≡ violations_of history
  pub first : MatchOption judgement.first (IsConsistent history) (IsFirstViolation history)

-- The reply is the text of the judgement of these commits and of that of terms, and the status by whether all is in order.
pub record TellsJudgement (commits : List Commit) (terms : Option TermJudgement) (reply : Result Answer Fault) : Type 0 where
  pub judgement : Judgement
  pub exact : IsJudgementOf commits judgement
  pub is : reply ≡ Ok (record { text = text_of judgement terms; status = status_after judgement terms })

-- The reply to a history: its judgement, and that of terms, if some commit names a shard.
pub record TellsHistory (lines : List Line) (reply : Result Answer Fault) : Type 0 where
  pub terms : Option TermJudgement
  pub exact : MatchOption terms (length (shard_commits_of lines) ≡ 0) (IsTermJudgementOf (shard_commits_of lines))
  pub told : TellsJudgement (commits_of lines) terms reply

-- What `judge` answers to an input: its first bad line, where it is the text of no history, or the judgement of its history.
pub record IsJudgeReply (input : List ℕ) (reply : Result Answer Fault) : Type 0 where
  pub bad : IsNoHistoryText input → (line : ℕ) × IsFirstBadLine input line × (reply ≡ Err (History (BadLine line)))
  pub read : (lines : List Line) → IsHistoryText input lines → TellsHistory lines reply
