use Rattle.std.proofs.Common.{true, false, ap, sym, ◌∙◌, append-nil}
use Rattle.tt_world.specs.Bad.{accepted}
use Rattle.tt_world.specs.State.{knows}
use Rattle.tt_twin.proofs.Pushing.{chosen_more}
use Rattle.tt_twin.proofs.observations.known_sources.Goals as goal
use Rattle.tt_twin.proofs.observations.known_sources.Goals.{then-is_known+in_ok-push, else-is_known}

pub loop-source-preserved : goal.loop-source-preserved
loop-source-preserved c = λ configs past stands.
    let k = c.is_known.ensures.value configs past stands in
    elim c.if-is_known.branch [
      | then-is_known+in_ok-push w ↦ chosen_more (λ i. knows configs (accepted configs past) c.args.machine i) c.loop-source.source true c.loop-source.known.items c.if-is_known.known.items (sym k ∙ w.if-is_known.true) (c.loop-source.invariant configs past stands) (ap (λ v. v.items) w.known-is ∙ rw w.in_ok-push.was at w.push.ensures.items)
      | else-is_known w ↦ chosen_more (λ i. knows configs (accepted configs past) c.args.machine i) c.loop-source.source false c.loop-source.known.items c.if-is_known.known.items (sym k ∙ w.if-is_known.false) (c.loop-source.invariant configs past stands) (ap (λ v. v.items) w.known-is ∙ sym (append-nil c.loop-source.known.items))
    ]
