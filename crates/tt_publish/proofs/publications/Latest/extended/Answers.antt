use Rattle.std.proofs.Common.{◌≡◌, ◌∙◌, ◌++◌, ◌∷◌, [], List, ap, sym, arith, length-append}
use Rattle.tt_daemon.specs.Publication.{Publication}
use Rattle.tt_publish.proofs.Beginnings.{last_read-more}
use Rattle.tt_publish.proofs.publications.Latest.extended.Goals as goal

pub invariant_of-latest : goal.invariant_of-latest
invariant_of-latest c =
    let next : Publication = c.args.next.now in
    let xs : List Publication = c.self.inside.glance.items in
    let all : c.glance.result.items ≡ xs ++ next ∷ [] =
    ap (λ k. k.items) c.glance.ensures ∙ (ap (λ k. k.items) c.add.ensures ∙ ap (λ k. k.items ++ next ∷ []) (c.requires.history ∙ sym c.self.view_is)) in
    (rw all (omega (arith, c.self.invariant.0, length-append xs (next ∷ []))), rw all (last_read-more xs next c.clock.result c.span.result c.clock.ensures.value c.span.ensures.value))
