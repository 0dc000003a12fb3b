-- What a client is told of a commit.
use Rattle.std.specs.Prelude.{◌≡◌, ℕ, List, [], ◌∷◌, ◌++◌, Option, None}
use Rattle.tt_session.specs.Answers.{AnswersLines}
use Rattle.tt_session.specs.declared.begun.Begun.{Begun}
use Rattle.tt_session.specs.declared.calls.Call.{Call}
use Rattle.tt_session.specs.declared.replies.LineReply.{LineReply}
use Rattle.tt_session.specs.declared.replies.LineReply.TheVariants.{Committed}
use Rattle.tt_consistency.specs.Order.{IsCommitted}

-- after these replies a session replies that the commit with this number and this stamp is committed: by its calls up to then the commit began with this stamp, and was answered to be released
pub record IsTold (waits : ℕ) (lines : List (List ℕ)) (calls : List Call) (before : List LineReply) (number stamp : ℕ) : Type 0 where
  pub heard : List (List ℕ)
  pub later_lines : List (List ℕ)
  pub early : List Call
  pub later_calls : List Call
  pub last : Option Begun
  pub lines_are : lines ≡ heard ++ later_lines
  pub calls_are : calls ≡ early ++ later_calls
  pub answered : AnswersLines waits None heard early (before ++ Committed number stamp ∷ []) last
  pub begun : ℕ
  pub released : ℕ
  pub committed : IsCommitted early number stamp begun released
