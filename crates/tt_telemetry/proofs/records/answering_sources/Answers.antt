-- One more source answers again, or not.
use Rattle.std.proofs.Common.{◌≡◌, ℕ, ◌++◌, [], ◌∷◌, ◌<◌, Bool, List, get_or, length, arith, ap, ◌∙◌, sym}
use Rattle.std.proofs.lemmas.List.{get_or_default}
use Rattle.arrayvec.specs.ArrayVec.{ArrayVec, array_vec_len}
use Rattle.tt_rounds.specs.declared.reports.SourceReport.{SourceReport}
use Rattle.tt_rounds.specs.Reports.{silent as silent_report}
use Rattle.tt_telemetry.specs.Records.{answers_again, has_answered, no_source_tally, report_at, tally_at}
use Rattle.tt_telemetry.specs.declared.records.SourceTally.{SourceTally}
use Rattle.tt_telemetry.proofs.Numbers.{numbers-no, numbers-yes}
use Rattle.tt_telemetry.proofs.records.answering_sources.Goals as goal
use Rattle.tt_telemetry.proofs.records.answering_sources.Goals.{then-has_answered, else-has_answered}

looked : (each : List SourceTally) (sources : List SourceReport) (i : ℕ) (e : SourceTally) (d : SourceReport) (b said : Bool) → i < length each → i < length sources
    → b ≡ has_answered (get_or each i e) (get_or sources i d) → b ≡ said → answers_again each sources i ≡ said
looked each sources i e d b said in_each in_sources is so =
    sym (ap (λ (s : SourceReport). has_answered (tally_at each i) s) (get_or_default sources i d silent_report in_sources))
    ∙ sym (ap (λ (t : SourceTally). has_answered t (get_or sources i d)) (get_or_default each i e no_source_tally in_each))
    ∙ sym is ∙ so

pub loop-source-preserved : goal.loop-source-preserved
loop-source-preserved c =
    let in_each : c.loop-source.source < length c.args.each.now = omega (arith, c.told-each, c.loop-source-test.true, c.requires.few) in
    let in_sources : c.loop-source.source < length c.args.sources.now = omega (arith, c.told-sources, c.loop-source-test.true, c.requires.few) in
    elim c.if-has_answered.branch [
      | then-has_answered w ↦ record {
        value = ap (λ (v : ArrayVec ℕ). v.items) w.answering-is ∙ w.push.ensures.items ∙ ap (λ (l : List ℕ). l ++ c.loop-source.source ∷ []) c.loop-source.invariant.value
            ∙ sym (numbers-yes _ c.loop-source.source (looked _ _ _ _ _ _ _ in_each in_sources c.has_answered.ensures w.if-has_answered.true));
        few = omega (arith, ap array_vec_len w.answering-is, w.push.ensures.len, c.loop-source.invariant.few);
      }
      | else-has_answered w ↦ record {
        value = ap (λ (v : ArrayVec ℕ). v.items) w.answering-is ∙ c.loop-source.invariant.value ∙ sym (numbers-no _ c.loop-source.source (looked _ _ _ _ _ _ _ in_each in_sources c.has_answered.ensures w.if-has_answered.false));
        few = omega (arith, ap array_vec_len w.answering-is, c.loop-source.invariant.few);
      }
    ]
