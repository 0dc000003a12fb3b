-- Each source has its last answer.
use Rattle.std.proofs.Common.{◌≡◌, ℕ, ◌+◌, ◌<◌, List, get_or, length, set, arith, ap, ◌∙◌, length-set}
use Rattle.std.specs.Prelude.{Option, None}
use Rattle.std.proofs.lemmas.List.{get_or_default}
use Rattle.std.proofs.lemmas.List.Edits.{fill_by_more}
use Rattle.std.proofs.lemmas.List.FromFn.{fill_by_all}
use Rattle.tt_rounds.specs.declared.reports.SourceReport.{SourceReport}
use Rattle.tt_rounds.specs.Reports.{silent}
use Rattle.tt_health.specs.Answers.{answer_at, answers_after, last_after}
use Rattle.tt_health.specs.declared.answers.Answer.{Answer}
use Rattle.tt_health.proofs.answers.answers_after.Goals as goal

more : (answers next : List (Option Answer)) (sources : List SourceReport) (i : ℕ) (d : SourceReport) (e t : Option Answer) → i < length answers → i < length sources → i < length next
    → t ≡ last_after (get_or answers i e) (get_or sources i d)
    → ((k : ℕ) → k < i → get_or next k None ≡ last_after (answer_at answers k) (get_or sources k silent))
    → (k : ℕ) → k < i + 1 → get_or (set next i t) k None ≡ last_after (answer_at answers k) (get_or sources k silent)
more answers next sources i d e t in_answers in_sources in_next is known k lt =
    let last : ℕ → Option Answer = λ n. last_after (answer_at answers n) (get_or sources n silent) in
    let same : t ≡ last i = is ∙ ap (λ (s : SourceReport). last_after (get_or answers i e) s) (get_or_default sources i d silent in_sources) ∙ ap (λ (a : Option Answer). last_after a (get_or sources i silent)) (get_or_default answers i e None in_answers) in
    rw same (fill_by_more last next i None in_next known k lt)

pub loop-source-preserved : goal.loop-source-preserved
loop-source-preserved c = record {
  known = more _ _ _ _ _ _ _ (omega (arith, c.told-answers, c.loop-source-test.true)) (omega (arith, c.told-sources, c.loop-source-test.true)) (omega (arith, c.loop-source.invariant.long, c.loop-source-test.true)) c.answer_after.ensures c.loop-source.invariant.known;
  long = length-set c.loop-source.next c.loop-source.source c.answer_after.result ∙ c.loop-source.invariant.long;
}

pub returns : goal.returns
unfolding answers_after
returns c = record {
  value = fill_by_all (λ k. last_after (answer_at c.args.answers.now k) (get_or c.args.sources.now k silent)) c.loop-source.next 16 None c.loop-source.invariant.long (λ k lt. c.loop-source.invariant.known k (omega (arith, lt, c.loop-source-test.false)));
}
