use Rattle.std.proofs.Common.{◌≡◌, ◌<◌, length, ℕ, get_or, ap, ◌∙◌}
use Rattle.std.proofs.lemmas.List.{get_or_default}
use Rattle.tt_span.specs.Interval.{Interval, whole}
use Rattle.tt_world.specs.declared.events.Event.{Event}
use Rattle.tt_world.specs.declared.events.Action.TheVariants as does
use Rattle.tt_twin.proofs.Pushing.{made_more}
use Rattle.tt_twin.proofs.twins.answer_all.Goals as goal

pub loop-packet-preserved : goal.loop-packet-preserved
loop-packet-preserved c =
    let inside : c.loop-packet.packet < length c.args.spans.now = c.loop-packet-test.true in
    let span : c.index-spans-packet.result ≡ get_or c.args.spans.now c.loop-packet.packet whole = c.index-spans-packet.is ∙ get_or_default c.args.spans.now c.loop-packet.packet c.index-spans-packet.result whole inside in
    let answer : ℕ → Interval → Event = λ j span. record { at = c.args.at; action = does.Answer j span } in
    made_more (λ j. answer j (get_or c.args.spans.now j whole)) c.args.twin.now.items c.loop-packet.twin.items c.push.new.self.items c.loop-packet.packet (answer c.loop-packet.packet c.index-spans-packet.result)
    (rw c.in_ok-push.was at c.push.ensures.items) c.loop-packet.invariant (ap (λ (s : Interval). answer c.loop-packet.packet s) span)
