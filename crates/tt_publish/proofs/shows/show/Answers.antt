use Rattle.std.proofs.Common.{◌≡◌, Some, ap, sym, ◌∙◌}
use Rattle.left_right.specs.Sides.{view}
use Rattle.tt_publish.specs.Shown.{source_of}
use Rattle.tt_publish.proofs.Looking.{sees_more, last_wins}
use Rattle.tt_publish.proofs.shows.show.Goals as goal

pub publish_as-requires : goal.publish_as-requires
publish_as-requires g c next is =
    let a = c.in-Ok.ensures in
    let same = last_wins _ next c.copied.result _ _ c.requires.idle a.pending is ∙ c.copied.ensures in
    let known : source_of (view c.append.new.self.desk.place) ≡ Some next.source =
    ap (λ d. source_of (view d.place)) a.desk ∙ (c.requires.source ∙ ap (λ k. Some k.source) (sym same)) in
    sees_more _ _ _ next known
