use Rattle.std.proofs.Common.{◌≡◌, true, false, [], ◌<◌, ◌≤◌, ◌∙◌, List, ◌∷◌, ◌++◌, ap, sym, refl, slice_get, slice_set, Ok, Some, length, arith}
use Rattle.tt_poll.specs.Message.{PollRequest2}
use Rattle.tt_world.specs.declared.events.Reply.TheVariants.{Refused}
use Rattle.tt_world.specs.declared.packets.Packet.{Packet}
use Rattle.tt_world.specs.declared.packets.Packet.TheVariants.{Asked}
use Rattle.tt_world.specs.State.{WorldState}
use Rattle.tt_world.specs.Private.Machine.{MachineState}
use Rattle.tt_world.specs.Private.Step.{is_back_on, send_on}
use Rattle.tt_world.specs.contracts.world.World.{the_view}
use Rattle.tt_world.proofs.Simulation.Turns.{same_item, found_at, send_on-no_source, send_on-back, send_on-sent, send_on-refused, outcome}
use Rattle.tt_world.proofs.world.World.send.Goals as goal

pub returns-then-from-sources-clause-does : goal.returns-then-from-sources-clause-does
returns-then-from-sources-clause-does c =
    let w : WorldState = the_view c.self.inside in
    let m = c.args.machine in
    let p = c.from-place.result in
    let x : MachineState = c.index.result.now in
    let inside : p < length w.machines = omega (arith, c.len.ensures) in
    let found : slice_get w.machines m ≡ Some x = found_at w.machines p m x c.from-place.ensures inside c.index.ensures in
    let no_source : x.daemon.config.sources ≤ c.args.source =
    omega (arith, c.sources.ensures.value, ap (λ k. k.sources) c.config.ensures.value, c.from.ensures, c.if-from-sources.true) in (
      refl,
      ap (λ (v : WorldState). send_on v c.args.at m c.args.source c.args.clock (slice_get v.machines m)) (sym c.self.view_is)
          ∙ send_on-no_source w c.args.at m c.args.source c.args.clock x found no_source,
    )

pub returns-then-is_back-clause-does : goal.returns-then-is_back-clause-does
returns-then-is_back-clause-does c =
    let w : WorldState = the_view c.self.inside in
    let m = c.args.machine in
    let p = c.from-place.result in
    let x : MachineState = c.index.result.now in
    let inside : p < length w.machines = omega (arith, c.len.ensures) in
    let found : slice_get w.machines m ≡ Some x = found_at w.machines p m x c.from-place.ensures inside c.index.ensures in
    let one : x ≡ c.index-2.result.now = same_item w.machines p x c.index-2.result.now inside c.index.ensures c.index-2.ensures in
    let source : c.args.source < x.daemon.config.sources = omega (arith, c.sources.ensures.value, ap (λ k. k.sources) c.config.ensures.value, c.from.ensures, c.if-from-sources.false) in
    let back : is_back_on x c.args.clock ≡ true = ap (λ (y : MachineState). is_back_on y c.args.clock) one ∙ sym c.is_back.ensures.value ∙ c.if-is_back.true in (
      refl,
      ap (λ (v : WorldState). send_on v c.args.at m c.args.source c.args.clock (slice_get v.machines m)) (sym c.self.view_is)
          ∙ send_on-back w c.args.at m c.args.source c.args.clock x found source back,
    )

pub returns-in-Ok-clause-does : goal.returns-in-Ok-clause-does
returns-in-Ok-clause-does c =
    let w : WorldState = the_view c.self.inside in
    let m = c.args.machine in
    let p = c.from-place.result in
    let x : MachineState = c.index_mut.result.now in
    let inside : p < length w.machines = omega (arith, c.len.ensures) in
    let found : slice_get w.machines m ≡ Some x = found_at w.machines p m x c.from-place.ensures inside c.index_mut.ensures.value in
    let first : x ≡ c.index.result.now = same_item w.machines p x c.index.result.now inside c.index_mut.ensures.value c.index.ensures in
    let one : x ≡ c.index-2.result.now = same_item w.machines p x c.index-2.result.now inside c.index_mut.ensures.value c.index-2.ensures in
    let source : c.args.source < x.daemon.config.sources =
    omega (arith, ap (λ (y : MachineState). y.daemon.config.sources) first, c.sources.ensures.value, ap (λ k. k.sources) c.config.ensures.value, c.from.ensures, c.if-from-sources.false) in
    let forward : is_back_on x c.args.clock ≡ false = ap (λ (y : MachineState). is_back_on y c.args.clock) one ∙ sym c.is_back.ensures.value ∙ c.if-is_back.false in
    let request = rw c.unwrap-request.ensures at c.new.ensures.value in
    let pushed = rw c.unwrap.ensures at c.push.ensures.items in
    let put : c.push.new.self.items ≡ w.packets ++ Asked (record { machine = m; source = c.args.source; nonce = c.in-Ok.nonce; epoch = c.in-Ok.life }) ∷ [] =
    pushed ∙ ap (λ (ps : List Packet). ps ++ Asked c.unwrap-request.result ∷ []) c.in_ok-reserve.ensures.items ∙ ap (λ (r : PollRequest2). w.packets ++ Asked r ∷ []) request in
    let count : c.len-number.result ≡ length w.packets = omega (arith, c.len-number.ensures, c.in_ok-reserve.ensures.len) in
    ap (λ (v : WorldState). send_on v c.args.at m c.args.source c.args.clock (slice_get v.machines m)) (sym c.self.view_is)
    ∙ send_on-sent w c.args.at m p c.args.source c.args.clock c.len-number.result c.in-Ok.nonce c.in-Ok.life x c.poll.new.self c.push.new.self.items found source forward
    c.in-Ok.ensures.polled.0 c.in-Ok.ensures.polled.1 c.in-Ok.ensures.polled.2 c.in-Ok.ensures.polled.4 count put c.from-place.ensures

pub returns-in-Err-clause-does : goal.returns-in-Err-clause-does
returns-in-Err-clause-does c =
    let w : WorldState = the_view c.self.inside in
    let m = c.args.machine in
    let p = c.from-place.result in
    let x : MachineState = c.index_mut.result.now in
    let inside : p < length w.machines = omega (arith, c.len.ensures) in
    let found : slice_get w.machines m ≡ Some x = found_at w.machines p m x c.from-place.ensures inside c.index_mut.ensures.value in
    let first : x ≡ c.index.result.now = same_item w.machines p x c.index.result.now inside c.index_mut.ensures.value c.index.ensures in
    let one : x ≡ c.index-2.result.now = same_item w.machines p x c.index-2.result.now inside c.index_mut.ensures.value c.index-2.ensures in
    let source : c.args.source < x.daemon.config.sources =
    omega (arith, ap (λ (y : MachineState). y.daemon.config.sources) first, c.sources.ensures.value, ap (λ k. k.sources) c.config.ensures.value, c.from.ensures, c.if-from-sources.false) in
    let forward : is_back_on x c.args.clock ≡ false = ap (λ (y : MachineState). is_back_on y c.args.clock) one ∙ sym c.is_back.ensures.value ∙ c.if-is_back.false in
    ap (λ (v : WorldState). send_on v c.args.at m c.args.source c.args.clock (slice_get v.machines m)) (sym c.self.view_is)
    ∙ send_on-refused w c.args.at m p c.args.source c.args.clock c.number.result x c.poll.new.self c.in-Err.fault found source forward
    c.in-Err.ensures.refused.0 c.in-Err.ensures.refused.1 c.number.ensures c.from-place.ensures
    ∙ ap (λ (ps : List Packet). Ok (outcome c.args.at ps (slice_set w.machines p c.poll.new.self) w.shown (Refused c.number.result))) (sym c.in_ok-reserve.ensures.items)
