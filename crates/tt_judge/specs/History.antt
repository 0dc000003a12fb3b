-- The lines of a history, and what is stored of them.
use Rattle.std.specs.Prelude.{◌≡◌, ℕ, ◌+◌, List, [], ◌∷◌, ◌++◌, map, Option, Some, None}
use Rattle.tt_judge.specs.declared.history.Commit.{Commit}
use Rattle.tt_judge.specs.declared.history.ShardTerm.{ShardTerm}
use Rattle.tt_judge.specs.declared.history.ShardCommit.{ShardCommit}
use Rattle.tt_judge.specs.declared.history.Line.{Line}
use Rattle.tt_judge.specs.declared.history.CommitHistory.{CommitHistory}

-- the commits of these lines
abbrev pub commits_of : List Line → List Commit
commits_of lines = map (λ line. line.commit) lines

-- the commit with this number as one of a shard, if its line names one
abbrev pub commit_of_shard : ℕ → Commit → Option ShardTerm → List ShardCommit
commit_of_shard number commit None = []
commit_of_shard number commit (Some of) = record { shard = of.shard; term = of.term; stamp = commit.stamp; number = number } ∷ []

abbrev pub shard_commits_at : ℕ → Line → List ShardCommit
shard_commits_at number line = commit_of_shard number line.commit line.term

-- of these lines, of which the first has this number, the commits that name a shard
abbrev pub shard_commits_from : ℕ → List Line → List ShardCommit
shard_commits_from number [] = []
shard_commits_from number (line ∷ lines) = shard_commits_at number line ++ shard_commits_from (number + 1) lines

-- the commits of a history that name a shard, numbered from 0
abbrev pub shard_commits_of : List Line → List ShardCommit
shard_commits_of lines = shard_commits_from 0 lines

-- the history has the commits of these lines
pub record IsStored (lines : List Line) (history : CommitHistory) : Type 0 where
  pub commits : history.commits.items ≡ commits_of lines
  pub of_shards : history.of_shards.items ≡ shard_commits_of lines
