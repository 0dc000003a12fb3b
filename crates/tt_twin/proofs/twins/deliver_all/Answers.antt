use Rattle.std.proofs.Common.{◌+◌, length, ℕ, refl}
use Rattle.tt_world.specs.declared.events.Event.{Event}
use Rattle.tt_world.specs.declared.events.Action.TheVariants as does
use Rattle.tt_twin.proofs.Pushing.{made_more}
use Rattle.tt_twin.proofs.twins.deliver_all.Goals as goal

pub loop-place-preserved : goal.loop-place-preserved
loop-place-preserved c =
    let deliver : ℕ → Event = λ j. record { at = c.args.at; action = does.Deliver (length c.args.sources.now + j) c.args.clock } in
    made_more deliver c.args.twin.now.items c.loop-place.twin.items c.push.new.self.items c.loop-place.place (deliver c.loop-place.place)
    (rw c.in_ok-push.was at c.push.ensures.items) c.loop-place.invariant refl
