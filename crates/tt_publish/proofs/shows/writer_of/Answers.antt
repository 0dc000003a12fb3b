use Rattle.std.proofs.Common.{ap, sym, ◌∙◌}
use Rattle.tt_publish.proofs.Looking.{sees, last_wins}
use Rattle.tt_publish.proofs.shows.writer_of.Goals as goal

pub publish_as-requires : goal.publish_as-requires
publish_as-requires g c next is =
    let a = c.in-Ok.ensures in
    let new = c.in_ok-writer.ensures in
    let same = last_wins _ next c.copied-3.result _ _ new.1 a.pending is ∙ c.copied-3.ensures in
    let was = ap (λ d. d.shown.value) a.desk ∙ (new.0 ∙ c.copied.ensures) in
    sees _ _ _ next (ap (λ k. k.source) (was ∙ sym same))
