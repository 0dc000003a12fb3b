use Rattle.std.proofs.Common.{◌≡◌, ◌∙◌, inl, [], Ok, Some, slice_get}
use Rattle.std.specs.Prelude.{string_bytes}
use Rattle.tt_twin.specs.Twin.{twin_of}
use Rattle.tt_world.specs.declared.events.Reply.TheVariants as replies
use Rattle.tt_world.specs.Reply.{replies_from}
use Rattle.ttd_commands.specs.Twinning.{twin_side, twin_text}
use Rattle.ttd_commands.proofs.Twinned.{reading_there, twin_told}
use Rattle.ttd_commands.proofs.twinning.found.Goals as goal

pub reading_at-reading-requires : goal.reading_at-reading-requires
reading_at-reading-requires c =
    let script = c.args.script.now in
    let side = twin_side c.args.side in
    let is : twin_of script.configs script.events c.args.k side ≡ Ok c.in_ok-twin.twin.items =
    rw (c.configs.ensures.value, c.to_events.ensures.value, c.side_of.ensures) at c.in_ok-twin.ensures.value in
    let defined : c.in_ok-trace.trace.replies ≡ replies_from script.configs [] script.events =
    rw (c.configs-2.ensures.value, c.to_events-2.ensures.value) at c.in_ok-trace.ensures.replies in
    let all : c.replies.result.now ≡ replies_from script.configs [] script.events = c.replies.ensures ∙ defined in
    let there = reading_there script.configs script.events c.args.k side (c.twin_laws.ensures.answered script.configs script.events c.in_ok-twin.twin.items c.args.k side is) in
    (there.0, rw all there.1)

pub returns-clause-value : goal.returns-clause-value
returns-clause-value c =
    let script = c.args.script.now in
    let reading = c.reading_at-reading.result.now in
    let is : twin_of script.configs script.events c.args.k (twin_side c.args.side) ≡ Ok c.in_ok-twin.twin.items =
    rw (c.configs.ensures.value, c.to_events.ensures.value, c.side_of.ensures) at c.in_ok-twin.ensures.value in
    let given : slice_get c.in_ok-trace.trace.replies c.args.k ≡ Some (replies.Read reading) = rw c.replies.ensures at c.reading_at-reading.ensures in
    let defined : c.in_ok-trace.trace.replies ≡ replies_from script.configs [] script.events =
    rw (c.configs-2.ensures.value, c.to_events-2.ensures.value) at c.in_ok-trace.ensures.replies in
    let replied : slice_get (replies_from script.configs [] script.events) c.args.k ≡ Some (replies.Read reading) = rw defined at given in
    let same : string_bytes c.in-Ok.text ≡ twin_text c.in_ok-twin.twin.items reading = rw c.as_slice.ensures.value at c.in-Ok.ensures in
    inl (twin_told script c.args.k _ _ reading (string_bytes c.in-Ok.text) is replied same)
