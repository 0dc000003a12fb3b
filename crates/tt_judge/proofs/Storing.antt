-- What is stored of the lines of a history, one after another.
use Rattle.std.proofs.Common.{◌≡◌, ℕ, ◌+◌, List, [], ◌∷◌, ◌++◌, length, sym, ap, ◌∙◌, arith, append_assoc}
use Rattle.std.specs.Prelude.{true, Result, Ok, Err, OnOk, is_ok}
use Rattle.std.proofs.lemmas.Bool.{true≢false}
use Rattle.std.proofs.lemmas.List.{append-nil, map-append, length-map}
use Rattle.tt_judge.specs.declared.history.Commit.{Commit}
use Rattle.tt_judge.specs.declared.history.ShardCommit.{ShardCommit}
use Rattle.tt_judge.specs.declared.history.Line.{Line}
use Rattle.tt_judge.specs.declared.history.CommitHistory.{CommitHistory}
use Rattle.tt_judge.specs.History.{shard_commits_at, shard_commits_from, IsStored}
use Rattle.tt_judge.proofs.CommitLines.{AreFoundSoFar}

-- one line more
shard_commits_from-push : (number : ℕ) (lines : List Line) (line : Line) (last : ℕ) → last ≡ number + length lines →
    shard_commits_from number (lines ++ line ∷ []) ≡ shard_commits_from number lines ++ shard_commits_at last line
shard_commits_from-push number [] line last is =
    let same : number ≡ last = omega (arith, is) in
    append-nil (shard_commits_at number line) ∙ ap (λ (n : ℕ). shard_commits_at n line) same
shard_commits_from-push number (first ∷ lines) line last is =
    ap (λ (rest : List ShardCommit). shard_commits_at number first ++ rest) (shard_commits_from-push (number + 1) lines line last (omega (arith, is)))
    ∙ sym (append_assoc (shard_commits_at number first) (shard_commits_from (number + 1) lines) (shard_commits_at last line))

pub IsStored-push : (lines : List Line) (line : Line) (before after : CommitHistory) → IsStored lines before →
    after.commits.items ≡ before.commits.items ++ line.commit ∷ [] →
    after.of_shards.items ≡ before.of_shards.items ++ shard_commits_at (length before.commits.items) line → IsStored (lines ++ line ∷ []) after
IsStored-push lines line before after stored commits of_shards =
    let many : length before.commits.items ≡ length lines = ap length stored.commits ∙ length-map lines (λ (l : Line). l.commit) in
    record {
      commits = commits ∙ (ap (λ (cs : List Commit). cs ++ line.commit ∷ []) stored.commits ∙ sym (map-append (λ (l : Line). l.commit) lines (line ∷ [])));
      of_shards = of_shards ∙ (ap (λ (cs : List ShardCommit). cs ++ shard_commits_at (length before.commits.items) line) stored.of_shards
          ∙ sym (shard_commits_from-push 0 lines line (length before.commits.items) (omega (arith, many))));
    }

-- as many commits as lines
pub many-stored : (lines : List Line) (history : CommitHistory) → IsStored lines history → length history.commits.items ≡ length lines
many-stored lines history stored = ap length stored.commits ∙ length-map lines (λ (l : Line). l.commit)

-- what has been read: these lines of the text, whose commits the history has
pub record IsReadSoFar (text : List ℕ) (history : CommitHistory) (rest : List ℕ) : Type 0 where
  pub lines : List Line
  pub found : AreFoundSoFar text lines rest
  pub stored : IsStored lines history

-- what a call says of its `Ok`
pub from_ok : {T E P : Type 0} (r : Result T E) → true ≡ is_ok r → OnOk r P → P
from_ok (Ok x) is h = h
from_ok (Err e) is h = absurd (true≢false is)
