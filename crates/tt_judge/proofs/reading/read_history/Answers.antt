use Rattle.std.proofs.Common.{rules, ◌≡◌, ◌+◌, ◌<◌, ◌∷◌, [], ◌++◌, ℕ, List, length, drop, sym, ap, subst, arith, length-drop}
use Rattle.std.proofs.lemmas.List.{drop_all, length_push}
use Rattle.tt_text.specs.Reading.{Anything}
use Rattle.tt_text.proofs.Fronts.{further-ReadsUpTo}
use Rattle.tt_judge.specs.declared.history.Line.{Line}
use Rattle.tt_judge.specs.History.{IsStored, shard_commits_at}
use Rattle.tt_judge.specs.HistoryText.{commit_line, IsLine}
use Rattle.tt_judge.proofs.CommitLines.{some-line, AreFoundSoFar-push, BeginsWithCommit-read, IsFirstBadLine-found, IsNoHistoryText-bad_line, IsHistoryText-end, only-end}
use Rattle.tt_judge.proofs.Storing.{IsStored-push, from_ok, many-stored}
use Rattle.tt_judge.proofs.reading.read_history.Goals as goal

pub returns-in_default-clause-bad : goal.returns-in_default-clause-bad
returns-in_default-clause-bad c =
    let text = c.args.text.now in
    let so_far = c.loop-place.invariant.2 in
    let rest : List ℕ = drop c.loop-place.place text in
    let more : 0 < length rest = omega (arith, length-drop c.loop-place.place text, c.loop-place-test.true) in
    let many = many-stored so_far.lines c.loop-place.history so_far.stored in (
      IsNoHistoryText-bad_line text so_far.lines rest so_far.found more c.in_default.ensures,
      IsFirstBadLine-found text so_far.lines rest so_far.found (c.len.result + 1) (omega (arith, c.len.ensures, c.loop-place.history.commits.ok, many)) more c.in_default.ensures,
    )

pub loop-place-preserved : goal.loop-place-preserved
loop-place-preserved c =
    let text = c.args.text.now in
    let so_far = c.loop-place.invariant.2 in
    let history = c.loop-place.history in
    let line = c.in-Some.line in
    let rest : List ℕ = drop c.loop-place.place text in
    let more : 0 < length rest = omega (arith, length-drop c.loop-place.place text, c.loop-place-test.true) in
    let read = c.in-Some.ensures in
    let further : c.loop-place.place < c.in-Some.next = further-ReadsUpTo commit_line IsLine Anything text c.loop-place.place c.in-Some.next line c.loop-place.invariant.0 (some-line line) read in
    let commits : c.push.new.self.commits.items ≡ history.commits.items ++ line.commit ∷ [] = from_ok c.push.result c.in_ok-map_err.ensures.variant c.push.ensures.commits in
    let of_shards : c.push.new.self.of_shards.items ≡ history.of_shards.items ++ shard_commits_at (length history.commits.items) line = from_ok c.push.result c.in_ok-map_err.ensures.variant c.push.ensures.of_shards in (
      read.0,
      omega (arith, further, c.loop-place.invariant.1, ap length commits, length_push history.commits.items line.commit),
      record {
        lines = so_far.lines ++ line ∷ [];
        found = AreFoundSoFar-push text so_far.lines rest so_far.found line (drop c.in-Some.next text) more read.1;
        stored = IsStored-push so_far.lines line history c.push.new.self so_far.stored commits of_shards;
      },
    )

pub returns-clause-found : goal.returns-clause-found
returns-clause-found c =
    let text = c.args.text.now in
    let so_far = c.loop-place.invariant.2 in
    (so_far.lines, IsHistoryText-end text so_far.lines (drop c.loop-place.place text) so_far.found (drop_all c.loop-place.place text c.loop-place-test.false), so_far.stored)

pub returns-clause-only : goal.returns-clause-only
returns-clause-only c = λ lines spelled.
    let text = c.args.text.now in
    let so_far = c.loop-place.invariant.2 in
    let same = only-end text so_far.lines (drop c.loop-place.place text) so_far.found (drop_all c.loop-place.place text c.loop-place-test.false) lines spelled in
    subst (λ (ls : List Line). IsStored ls c.loop-place.history) (sym same) so_far.stored

pub returns-in_err-map_err-clause-bad : goal.returns-in_err-map_err-clause-bad
returns-in_err-map_err-clause-bad c =
    let so_far = c.loop-place.invariant.2 in
    let begins = BeginsWithCommit-read c.args.text.now so_far.lines (drop c.loop-place.place c.args.text.now) so_far.found c.in-Some.line (drop c.in-Some.next c.args.text.now) c.in-Some.ensures.1 in
    search rules
