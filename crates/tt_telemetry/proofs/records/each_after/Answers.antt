-- Each source is counted.
use Rattle.std.proofs.Common.{◌≡◌, ℕ, ◌+◌, ◌<◌, List, get_or, length, set, arith, ap, ◌∙◌, length-set}
use Rattle.std.proofs.lemmas.List.{get_or_default}
use Rattle.std.proofs.lemmas.List.Edits.{fill_by_more}
use Rattle.std.proofs.lemmas.List.FromFn.{fill_by_all}
use Rattle.tt_rounds.specs.declared.reports.SourceReport.{SourceReport}
use Rattle.tt_rounds.specs.Reports.{silent as silent_report}
use Rattle.tt_telemetry.specs.Records.{counted_source, each_after, no_source_tally, report_at, tally_at}
use Rattle.tt_telemetry.specs.declared.records.SourceTally.{SourceTally}
use Rattle.tt_telemetry.proofs.records.each_after.Goals as goal

more : (each next : List SourceTally) (sources : List SourceReport) (i : ℕ) (d : SourceReport) (e t : SourceTally) → i < length each → i < length sources → i < length next
    → t ≡ counted_source (get_or sources i d).outcome (get_or each i e)
    → ((k : ℕ) → k < i → get_or next k no_source_tally ≡ counted_source (report_at sources k).outcome (tally_at each k))
    → (k : ℕ) → k < i + 1 → get_or (set next i t) k no_source_tally ≡ counted_source (report_at sources k).outcome (tally_at each k)
more each next sources i d e t in_each in_sources in_next is counted k lt =
    let count : ℕ → SourceTally = λ n. counted_source (report_at sources n).outcome (tally_at each n) in
    let same : t ≡ count i = is ∙ ap (λ (s : SourceReport). counted_source s.outcome (get_or each i e)) (get_or_default sources i d silent_report in_sources) ∙ ap (counted_source (report_at sources i).outcome) (get_or_default each i e no_source_tally in_each) in
    rw same (fill_by_more count next i no_source_tally in_next counted k lt)

pub loop-source-preserved : goal.loop-source-preserved
loop-source-preserved c = record {
  counted = more _ _ _ _ _ _ _ (omega (arith, c.told-each, c.loop-source-test.true)) (omega (arith, c.told-sources, c.loop-source-test.true)) (omega (arith, c.loop-source.invariant.long, c.loop-source-test.true)) c.after.ensures.value c.loop-source.invariant.counted;
  long = length-set c.loop-source.next c.loop-source.source c.after.result ∙ c.loop-source.invariant.long;
}

pub returns : goal.returns
unfolding each_after
returns c = record {
  value = fill_by_all (λ k. counted_source (report_at c.args.sources.now k).outcome (tally_at c.args.each.now k)) c.loop-source.next 16 no_source_tally c.loop-source.invariant.long (λ k lt. c.loop-source.invariant.counted k (omega (arith, lt, c.loop-source-test.false)));
}
