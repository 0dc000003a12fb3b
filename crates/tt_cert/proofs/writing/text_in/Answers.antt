use Rattle.std.proofs.Common.{ℕ, ◌≤◌, List, length, subst}
use Rattle.std.specs.Prelude.{All}
use Rattle.tt_cert.specs.declared.certificate.Stretch.{Stretch}
use Rattle.tt_cert.proofs.Parts.{HasText-readable}
use Rattle.tt_cert.proofs.writing.text_in.Goals as goal

pub returns-clause-reads_back : goal.returns-clause-reads_back
returns-clause-reads_back c readable =
    let FewNumbers : List ℕ → Type 0 = λ xs. length xs ≤ 16 in
    let Numbers : List ℕ → Type 0 = λ xs. All (λ i. i ≤ 255) xs in
    let FewStretches : List Stretch → Type 0 = λ xs. length xs ≤ 33 in
    let Depths : List Stretch → Type 0 = λ xs. All (λ s. s.depth ≤ 255) xs in
    HasText-readable c.args.claim.now c.args.certificate.now c.lo.ensures.valid readable
    (subst FewNumbers c.left.ensures.value c.left.ensures.few)
    (subst Numbers c.left.ensures.value c.widened.ensures.bytes)
    (subst FewNumbers c.right.ensures.value c.right.ensures.few)
    (subst Numbers c.right.ensures.value c.widened-2.ensures.bytes)
    (subst FewStretches c.below.ensures.value c.below.ensures.few)
    (subst Depths c.below.ensures.value (c.in_ok-push_stretches.ensures.bytes))
    (subst FewStretches c.above.ensures.value c.above.ensures.few)
    (subst Depths c.above.ensures.value (c.in_ok-push_stretches-2.ensures.bytes))
