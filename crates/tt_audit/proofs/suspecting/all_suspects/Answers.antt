use Rattle.std.proofs.Common.{◌≡◌, ℕ, ◌+◌, ◌<◌, List, [], ◌∷◌, ◌++◌, length, take, map, get_or, set, ◌∙◌, ap, ap₂, sym, subst, arith}
use Rattle.std.proofs.lemmas.List.{get_or-replicate, length-replicate, length-set, map_more}
use Rattle.tt_fuse.specs.Suspect.{AreSuspects}
use Rattle.tt_world.specs.Publications.{Showing}
use Rattle.tt_world.specs.Trace.{outline}
use Rattle.tt_audit.specs.Suspects.{AreAllSuspects, publications_by, suspects_named}
use Rattle.tt_audit.proofs.Naming.{AreAllSuspects-more, counts-more}
use Rattle.tt_audit.proofs.suspecting.all_suspects.Goals as goal

pub loop-publication-init : goal.loop-publication-init
loop-publication-init c = (length-replicate {A = ℕ} 256 0, λ m h. get_or-replicate 256 m 0 0 h, c.new-found.ensures.items)

pub loop-publication-preserved : goal.loop-publication-preserved
loop-publication-preserved c =
    let i : ℕ = c.loop-publication.publication-index in
    let s = c.publication-item.result in
    let before : List Showing = map outline (take i c.args.shown.now) in
    let after : map outline (take (i + 1) c.args.shown.now) ≡ before ++ outline s ∷ [] =
    map_more outline c.args.shown.now i s c.loop-publication-test.true
    ∙ ap (λ x. before ++ outline x ∷ []) (sym c.publication-item.is) in
    let published : List ℕ = c.loop-publication.published in
    let place : ℕ = c.from-place.result in
    let sources : List ℕ = c.suspects-sources.result.items in
    let in_range : s.machine < 256 = omega arith in
    let number_is : get_or published place 0 ≡ publications_by s.machine before =
    ap (λ (k : ℕ). get_or published k 0) c.from-place.ensures ∙ c.loop-publication.invariant.1 s.machine in_range in
    let named : c.push_all.new.found.items ≡ c.loop-publication.found.items ++ suspects_named before (outline s) sources =
    c.in_ok-push_all.ensures
    ∙ ap₂ (λ (n : ℕ) (xs : List ℕ). c.loop-publication.found.items ++ map (λ source. record { machine = s.machine; publication = n + 1; source = source }) xs) number_is c.as_slice.ensures.value in
    let exact : AreSuspects s.fused.spans s.fused.span sources =
    subst (λ spans. AreSuspects spans s.fused.span sources) c.spans.ensures.value
    (subst (λ span. AreSuspects c.spans.result.now span sources) c.span.ensures.value c.suspects-sources.ensures.exact) in
    let P : List Showing → Type 0 = λ shown. (length (set published place (get_or published place 0 + 1)) ≡ 256)
    × ((m : ℕ) → m < 256 → get_or (set published place (get_or published place 0 + 1)) m 0 ≡ publications_by m shown)
    × AreAllSuspects [] shown c.push_all.new.found.items in
    subst P (sym after) (
      length-set published place _ ∙ c.loop-publication.invariant.0,
      counts-more published before (outline s) place c.from-place.ensures in_range c.loop-publication.invariant.0 c.loop-publication.invariant.1,
      subst (λ xs. AreAllSuspects [] (before ++ outline s ∷ []) xs) (sym named)
          (AreAllSuspects-more [] before c.loop-publication.found.items (outline s) sources c.loop-publication.invariant.2 exact),
    )
