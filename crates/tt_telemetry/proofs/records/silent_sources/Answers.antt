-- One more source is silent, or not.
use Rattle.std.proofs.Common.{◌≡◌, ℕ, ◌++◌, [], ◌∷◌, ◌<◌, Bool, List, get_or, length, arith, ap, ◌∙◌, sym}
use Rattle.std.proofs.lemmas.List.{get_or_default}
use Rattle.arrayvec.specs.ArrayVec.{ArrayVec, array_vec_len}
use Rattle.tt_rounds.specs.declared.reports.SourceReport.{SourceReport}
use Rattle.tt_rounds.specs.Reports.{silent as silent_report}
use Rattle.tt_telemetry.specs.Records.{is_silent, report_at}
use Rattle.tt_telemetry.proofs.Numbers.{numbers-no, numbers-yes}
use Rattle.tt_telemetry.proofs.records.silent_sources.Goals as goal
use Rattle.tt_telemetry.proofs.records.silent_sources.Goals.{then-is_silent, else-is_silent}

looked : (sources : List SourceReport) (i : ℕ) (d : SourceReport) (b said : Bool) → i < length sources → b ≡ is_silent (get_or sources i d).outcome → b ≡ said → is_silent (report_at sources i).outcome ≡ said
looked sources i d b said lt is so = sym (ap (λ (s : SourceReport). is_silent s.outcome) (get_or_default sources i d silent_report lt)) ∙ sym is ∙ so

pub loop-source-preserved : goal.loop-source-preserved
loop-source-preserved c =
    let inside : c.loop-source.source < length c.args.sources.now = omega (arith, c.told-sources, c.loop-source-test.true, c.requires.few) in
    elim c.if-is_silent.branch [
      | then-is_silent w ↦ record {
        value = ap (λ (v : ArrayVec ℕ). v.items) w.silent-is ∙ w.push.ensures.items ∙ ap (λ (l : List ℕ). l ++ c.loop-source.source ∷ []) c.loop-source.invariant.value
            ∙ sym (numbers-yes _ c.loop-source.source (looked _ _ _ _ _ inside c.is_silent.ensures w.if-is_silent.true));
        few = omega (arith, ap array_vec_len w.silent-is, w.push.ensures.len, c.loop-source.invariant.few);
      }
      | else-is_silent w ↦ record {
        value = ap (λ (v : ArrayVec ℕ). v.items) w.silent-is ∙ c.loop-source.invariant.value ∙ sym (numbers-no _ c.loop-source.source (looked _ _ _ _ _ inside c.is_silent.ensures w.if-is_silent.false));
        few = omega (arith, ap array_vec_len w.silent-is, c.loop-source.invariant.few);
      }
    ]
