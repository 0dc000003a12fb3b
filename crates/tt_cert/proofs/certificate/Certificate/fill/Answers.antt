use Rattle.std.proofs.Common.{ℕ, ◌+◌, ◌-◌, length, take, ◌∙◌, ap, subst}
use Rattle.tt_span.specs.Time.{max_time}
use Rattle.tt_cert.specs.Canonical.{sources_at}
use Rattle.tt_cert.specs.Sweep.{AreEndPieces}
use Rattle.tt_cert.proofs.Lifting.{AreEnds-from_slices, ArePieces-from_slices}
use Rattle.tt_cert.proofs.certificate.Certificate.fill.Goals as goal

pub cut_stretches-requires-clause-ends : goal.cut_stretches-requires-clause-ends
cut_stretches-requires-clause-ends c =
    AreEnds-from_slices c.args.spans.now c.args.ends.now c.requires.ends c.lows-lows.result.now c.highs-highs.result.now c.lows-lows.ensures.value c.highs-highs.ensures.value c.lows-lows.ensures.valid

pub cut_stretches-requires-2-clause-ends : goal.cut_stretches-requires-2-clause-ends
cut_stretches-requires-2-clause-ends c =
    AreEnds-from_slices c.args.spans.now c.args.ends.now c.requires.ends c.lows-lows.result.now c.highs-highs.result.now c.lows-lows.ensures.value c.highs-highs.ensures.value c.lows-lows.ensures.valid

pub returns : goal.returns
returns c =
    let spans = c.args.spans.now in
    let need : ℕ = length spans - c.args.faulty in
    let claim = c.args.claim.now in
    let lows = c.lows-lows.result.now in
    let highs = c.highs-highs.result.now in
    let below = c.cut_stretches.new.found in
    let above = c.cut_stretches-2.new.found in
    let low : AreEndPieces lows highs 0 claim.lo below = subst (λ (t : ℕ). AreEndPieces lows highs 0 t below) c.lo-2.ensures.value c.cut_stretches.ensures in
    let high : AreEndPieces lows highs (claim.hi + 1) (max_time + 1) above = subst (λ (t : ℕ). AreEndPieces lows highs (t + 1) (max_time + 1) above) c.hi-2.ensures.value c.cut_stretches-2.ensures in
    record {
      left = c.name_least_sources.ensures ∙ ap (λ t. take need (sources_at spans t)) c.lo.ensures.value;
      right = c.name_least_sources-2.ensures ∙ ap (λ t. take need (sources_at spans t)) c.hi.ensures.value;
      below = ArePieces-from_slices spans c.args.ends.now c.requires.ends lows highs c.lows-lows.ensures.value c.highs-highs.ensures.value 0 claim.lo below low;
      above = ArePieces-from_slices spans c.args.ends.now c.requires.ends lows highs c.lows-lows.ensures.value c.highs-highs.ensures.value (claim.hi + 1) (max_time + 1) above high;
    }
