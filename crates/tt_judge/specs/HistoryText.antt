-- A history as text.
use Rattle.std.specs.Prelude.{◌≡◌, ℕ, ◌+◌, ◌<◌, ◌≤◌, ◌^◌, List, [], ◌∷◌, ◌++◌, length, All, Option, Some, None, MatchOption, codes}
use Rattle.std.specs.List.{flat_map}
use Rattle.tt_text.specs.Line.{line_of}
use Rattle.tt_text.specs.Reading.{ReadsNothing, Anything}
use Rattle.tt_judge.specs.History.{IsStored}
use Rattle.tt_judge.specs.declared.history.CommitHistory.{CommitHistory}
use Rattle.tt_judge.specs.declared.history.Line.{Line}
use Rattle.tt_judge.specs.declared.history.ShardTerm.{ShardTerm}
use Rattle.tt_judge.specs.declared.faults.HistoryFault.{HistoryFault}
use Rattle.tt_judge.specs.declared.faults.HistoryFault.TheVariants.{BadLine, Memory}

-- the word of a commit's line
abbrev pub commit_word : List ℕ
commit_word = codes "commit"

-- the numbers of a shard and a term, if a line names them
abbrev pub term_numbers : Option ShardTerm → List ℕ
term_numbers None = []
term_numbers (Some of) = of.shard ∷ of.term ∷ []

-- the numbers of a commit's line: when it began, when it ended, its stamp, and its shard and term, if it names them
abbrev pub numbers_of : Line → List ℕ
numbers_of line = line.commit.began ∷ line.commit.ended ∷ line.commit.stamp ∷ term_numbers line.term

-- the line of a commit
abbrev pub commit_line : Line → List ℕ
commit_line line = line_of commit_word (numbers_of line)

-- the one text of a history: the line of each commit
abbrev pub history_text : List Line → List ℕ
history_text lines = flat_map commit_line lines

-- a shard and a term that fit 64 bits
pub record IsShardTerm (of : ShardTerm) : Type 0 where
  pub shard_fits : of.shard < 2 ^ 64
  pub term_fits : of.term < 2 ^ 64

-- a commit that did not end before it began, with numbers that fit 64 bits; it names a shard and a term, or neither
pub record IsLine (line : Line) : Type 0 where
  pub ordered : line.commit.began ≤ line.commit.ended
  pub ended_fits : line.commit.ended < 2 ^ 64
  pub stamp_fits : line.commit.stamp < 2 ^ 64
  pub term_fits : MatchOption line.term (0 ≤ 0) IsShardTerm

-- the text is that of these lines
pub record IsHistoryText (text : List ℕ) (lines : List Line) : Type 0 where
  pub lines_are : All IsLine lines
  pub is : text ≡ history_text lines

-- the text is that of some lines, whose commits the history has
abbrev pub IsHistoryOf : List ℕ → CommitHistory → Type 0
IsHistoryOf text history = (lines : List Line) × IsHistoryText text lines × IsStored lines history

-- the text is that of no commits
abbrev pub IsNoHistoryText : List ℕ → Type 0
IsNoHistoryText text = (lines : List Line) → IsHistoryText text lines → ⊥

-- before the line with this number, counted from 1, stand lines of commits; there the text goes on, but by no line of a commit
pub record IsFirstBadLine (text : List ℕ) (line : ℕ) : Type 0 where
  pub before : List Line
  pub rest : List ℕ
  pub lines_are : All IsLine before
  pub is : text ≡ history_text before ++ rest
  pub counted : line ≡ length before + 1
  pub more : 0 < length rest
  pub bad : ReadsNothing commit_line IsLine Anything rest

-- the text begins with the line of a commit
abbrev pub BeginsWithCommit : List ℕ → Type 0
BeginsWithCommit text = (line : Line) × (rest : List ℕ) × IsLine line × (text ≡ commit_line line ++ rest)

-- why a history was not read: its text is that of none, and this is the first bad line; or memory was refused for a commit
abbrev pub IsReadingFault : List ℕ → HistoryFault → Type 0
IsReadingFault text (BadLine line) = IsNoHistoryText text × IsFirstBadLine text line
IsReadingFault text Memory = BeginsWithCommit text
