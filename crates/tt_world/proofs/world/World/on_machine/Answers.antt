use Rattle.std.proofs.Common.{rules, List, ◌≡◌, ◌<◌, ◌∙◌, ap, sym, slice_get, Some, length, arith}
use Rattle.tt_world.specs.State.{WorldState}
use Rattle.tt_world.specs.Private.Machine.{MachineState}
use Rattle.tt_world.specs.Private.Step.{on_machine}
use Rattle.tt_world.specs.contracts.world.World.{the_view}
use Rattle.tt_world.proofs.Simulation.Turns.{found_at, on_machine-turned, on_machine-refused, put_back}
use Rattle.tt_world.proofs.world.World.on_machine.Goals as goal

pub returns : goal.returns
returns c =
    let w : WorldState = the_view c.self.inside in
    let m = c.args.machine in
    let p = c.from-place.result in
    let x : MachineState = c.index_mut.result.now in
    let inside : p < length w.machines = omega (arith, c.len.ensures) in
    let found : slice_get w.machines m ≡ Some x = found_at w.machines p m x c.from-place.ensures inside c.index_mut.ensures.value in
    ap (λ (v : WorldState). on_machine v c.args.at m c.args.machine_action (slice_get v.machines m)) (sym c.self.view_is)
    ∙ on_machine-turned w c.args.at m p c.args.machine_action x c.act.new.self c.in_ok-reply.reply found c.in_ok-reply.ensures c.from-place.ensures

pub returns-in_err-reply : goal.returns-in_err-reply
returns-in_err-reply c =
    let w : WorldState = the_view c.self.inside in
    let m = c.args.machine in
    let p = c.from-place.result in
    let x : MachineState = c.index_mut.result.now in
    let inside : p < length w.machines = omega (arith, c.len.ensures) in
    let found : slice_get w.machines m ≡ Some x = found_at w.machines p m x c.from-place.ensures inside c.index_mut.ensures.value in
    let same = ap (λ (machines : List MachineState). record w { machines = machines }) (put_back w.machines p x c.act.new.self c.index_mut.ensures.value c.in_err-reply.ensures.0) ∙ c.self.view_is in
    on_machine-refused c.args.self.now _ c.args.at m c.args.machine_action x c.in_err-reply.field-0.0 c.from_residual.result (search rules)
    (ap (λ (v : WorldState). slice_get v.machines m) (sym c.self.view_is) ∙ found) c.in_err-reply.ensures.1 same
