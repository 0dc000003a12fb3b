use Rattle.std.proofs.Common.{rules, ◌≡◌, ℕ, ◌∙◌, ap}
use Rattle.std.specs.Prelude.{Option, min, ◌==◌}
use Rattle.tt_span.specs.Interval.{Interval}
use Rattle.tt_top.specs.View.{sources_of, fused_of, view_with}
use Rattle.tt_top.proofs.Parts.{same_view}
use Rattle.tt_top.proofs.reading.Texts.view.Goals as goal

pub returns-in-Ok : goal.returns-in-Ok
unfolding view_with
returns-in-Ok c =
    let self = c.args.self.now in
    let status = self.status.now in
    let evidence = self.evidence.now in
    let least : c.min.result ≡ min c.in_ok-count.count 16 = search rules in
    let many = least ∙ ap (λ (n : ℕ). min n 16) c.in_ok-count.ensures in
    let sources =
    c.in-Ok.ensures
    ∙ ap (λ (fused : Option Interval). sources_of status evidence self.machine fused c.min.result) c.fused-fused.ensures
    ∙ ap (λ (n : ℕ). sources_of status evidence self.machine (fused_of evidence) n) many in
    same_view _ _ _ _ _ _ _ _ _ _ _ _ _ _ _ _ _ _ c.in_ok-life.ensures c.number_at-faulty.ensures sources c.fused-fused.ensures c.in_ok-width.ensures c.in_ok-commits.ensures
    (ap (λ (n : ℕ). n == 1) c.in_ok-sharing.ensures) c.in_ok-signs.ensures c.in_ok-broke.ensures
