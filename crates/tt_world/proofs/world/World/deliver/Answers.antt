use Rattle.std.proofs.Common.{◌≡◌, false, ◌<◌, ◌∙◌, List, refl, ap, sym, slice_get, Option, Some, length, arith}
use Rattle.std.proofs.lemmas.Option.{slice_get_read}
use Rattle.tt_world.specs.declared.packets.Packet.{Packet}
use Rattle.tt_world.specs.Packet.{machine_of_packet, is_asked}
use Rattle.tt_world.specs.State.{WorldState}
use Rattle.tt_world.specs.Private.Machine.{MachineState}
use Rattle.tt_world.specs.Private.Step.{is_back_on, deliver_on}
use Rattle.tt_world.specs.contracts.world.World.{the_view}
use Rattle.tt_world.proofs.Simulation.Turns.{same_item, found_at, deliver_on-taken}
use Rattle.tt_world.proofs.world.World.deliver.Goals as goal

pub returns : goal.returns
returns c =
    let w : WorldState = the_view c.self.inside in
    let packet : Packet = c.in-Some.found.now in
    let p = c.from-place.result in
    let x : MachineState = c.index_mut.result.now in
    let lookup = c.in-Some.ensures.lookup in
    let got : slice_get w.packets c.args.packet ≡ Some packet =
    ap (λ (ps : List Packet). slice_get ps c.args.packet) (sym c.deref.ensures.value)
    ∙ slice_get_read c.deref.result.now (length c.deref.result.now) c.args.packet packet refl lookup.3.0 lookup.1 in
    let same : p ≡ machine_of_packet packet = c.from-place.ensures ∙ c.machine.ensures in
    let asked : is_asked packet ≡ false = sym c.is_request.ensures ∙ c.if-is_request.false in
    let inside : p < length w.machines = omega (arith, c.len.ensures) in
    let one : x ≡ c.index.result.now = same_item w.machines p x c.index.result.now inside c.index_mut.ensures.value c.index.ensures in
    let found : slice_get w.machines (machine_of_packet packet) ≡ Some x = found_at w.machines p (machine_of_packet packet) x same inside c.index_mut.ensures.value in
    let forward : is_back_on x c.args.clock ≡ false = ap (λ (y : MachineState). is_back_on y c.args.clock) one ∙ sym c.is_back.ensures.value ∙ c.if-is_back.false in
    ap (λ (v : WorldState). deliver_on v c.args.at c.args.clock (slice_get v.packets c.args.packet)) (sym c.self.view_is)
    ∙ ap (λ (o : Option Packet). deliver_on w c.args.at c.args.clock o) got
    ∙ deliver_on-taken w c.args.at p c.args.clock packet x c.take_packet-reply.new.self c.take_packet-reply.result asked found forward c.take_packet-reply.ensures same
