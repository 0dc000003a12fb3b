-- Views of equal parts are equal.
use Rattle.std.proofs.Common.{◌≡◌, ℕ, List, ◌∙◌, ap, Bool}
use Rattle.std.specs.Prelude.{Option}
use Rattle.tt_span.specs.Interval.{Interval}
use Rattle.tt_top.specs.declared.views.Broke.{Broke}
use Rattle.tt_top.specs.declared.views.CommitCounts.{CommitCounts}
use Rattle.tt_top.specs.declared.views.Life.{Life}
use Rattle.tt_top.specs.declared.views.SignCounts.{SignCounts}
use Rattle.tt_top.specs.declared.views.SourceView.{SourceView}
use Rattle.tt_top.specs.View.{view_of}

pub same_view : (l l' : Life) (f f' : Option ℕ) (xs xs' : List SourceView) (a a' : Option Interval) (w w' : Option ℕ) (c c' : CommitCounts) (h h' : Bool) (s s' : SignCounts) (b b' : Broke) →
    l ≡ l' → f ≡ f' → xs ≡ xs' → a ≡ a' → w ≡ w' → c ≡ c' → h ≡ h' → s ≡ s' → b ≡ b' → view_of l f xs a w c h s b ≡ view_of l' f' xs' a' w' c' h' s' b'
same_view l l' f f' xs xs' a a' w w' c c' h h' s s' b b' le fe xse ae we ce he se be =
    ap (λ v. view_of v f xs a w c h s b) le
    ∙ ap (λ v. view_of l' v xs a w c h s b) fe
    ∙ ap (λ v. view_of l' f' v a w c h s b) xse
    ∙ ap (λ v. view_of l' f' xs' v w c h s b) ae
    ∙ ap (λ v. view_of l' f' xs' a' v c h s b) we
    ∙ ap (λ v. view_of l' f' xs' a' w' v h s b) ce
    ∙ ap (λ v. view_of l' f' xs' a' w' c' v s b) he
    ∙ ap (λ v. view_of l' f' xs' a' w' c' h' v b) se
    ∙ ap (λ v. view_of l' f' xs' a' w' c' h' s' v) be
