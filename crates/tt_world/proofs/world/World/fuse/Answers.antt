use Rattle.std.proofs.Common.{rules, List, map, ap₂, ◌≡◌, false, ◌<◌, ◌∙◌, ap, sym, subst, slice_get, Some, length, arith}
use Rattle.tt_world.specs.declared.publications.Shown.{Shown}
use Rattle.tt_world.specs.Publications.{Showing}
use Rattle.tt_world.specs.Trace.{outline}
use Rattle.tt_world.specs.State.{WorldState}
use Rattle.tt_world.specs.Private.Machine.{MachineState}
use Rattle.tt_world.specs.declared.faults.WorldFault.TheVariants as bad
use Rattle.tt_world.specs.Private.Step.{IsRefusal, is_back_on, fuse_on}
use Rattle.tt_world.specs.Reply.{TakesMemory}
use Rattle.tt_world.specs.contracts.world.World.{the_view}
use Rattle.tt_world.proofs.Simulation.Turns.{same_item, found_at, fuse_on-fused, Does-memory, TakesMemory-fuse_on, put_back}
use Rattle.tt_world.proofs.world.World.fuse.Goals as goal

pub returns : goal.returns
returns c =
    let w : WorldState = the_view c.self.inside in
    let m = c.args.machine in
    let p = c.from-place.result in
    let x : MachineState = c.index_mut.result.now in
    let inside : p < length w.machines = omega (arith, c.len.ensures) in
    let one : x ≡ c.index.result.now = same_item w.machines p x c.index.result.now inside c.index_mut.ensures.value c.index.ensures in
    let found : slice_get w.machines m ≡ Some x = found_at w.machines p m x c.from-place.ensures inside c.index_mut.ensures.value in
    let forward : is_back_on x c.args.clock ≡ false = ap (λ (y : MachineState). is_back_on y c.args.clock) one ∙ sym c.is_back.ensures.value ∙ c.if-is_back.false in
    ap (λ (v : WorldState). fuse_on v c.args.at m c.args.clock (slice_get v.machines m)) (sym c.self.view_is)
    ∙ fuse_on-fused w c.args.at m p c.args.clock x c.fuse.new.self c.in_ok-reply.reply _ found forward c.in_ok-reply.ensures.fused c.in_ok-reply.ensures.shown c.from-place.ensures

pub returns-in_err-reply : goal.returns-in_err-reply
returns-in_err-reply c =
    let w : WorldState = the_view c.self.inside in
    let m = c.args.machine in
    let p = c.from-place.result in
    let x : MachineState = c.index_mut.result.now in
    let inside : p < length w.machines = omega (arith, c.len.ensures) in
    let one : x ≡ c.index.result.now = same_item w.machines p x c.index.result.now inside c.index_mut.ensures.value c.index.ensures in
    let found : slice_get w.machines m ≡ Some x = found_at w.machines p m x c.from-place.ensures inside c.index_mut.ensures.value in
    let forward : is_back_on x c.args.clock ≡ false = ap (λ (y : MachineState). is_back_on y c.args.clock) one ∙ sym c.is_back.ensures.value ∙ c.if-is_back.false in
    let taken = subst (λ (v : WorldState). IsRefusal TakesMemory bad.Memory (fuse_on v c.args.at m c.args.clock (slice_get v.machines m))) c.self.view_is
    (TakesMemory-fuse_on w c.args.at m c.args.clock x found forward c.in_err-reply.ensures.memory_only) in
    Does-memory _ _ _ _ _ (search rules)
    (ap₂ (λ (machines : List MachineState) (shown : List Showing). record w { machines = machines; shown = shown })
    (put_back w.machines p x c.fuse.new.self c.index_mut.ensures.value c.in_err-reply.ensures.unchanged.0) (ap (λ (xs : List Shown). map outline xs) c.in_err-reply.ensures.unchanged.1)
    ∙ c.self.view_is) taken
