use Rattle.std.proofs.Common.{◌≡◌, ◌<◌, ◌≤◌, ◌∙◌, slice_get, Some, length, arith}
use Rattle.std.proofs.lemmas.Bool.{le-ltb}
use Rattle.tt_world.specs.Bad.{accepted}
use Rattle.tt_world.specs.State.{WorldState}
use Rattle.tt_world.specs.Private.Machine.{MachineState}
use Rattle.tt_world.specs.contracts.world.World.{the_view}
use Rattle.tt_world.proofs.Simulation.Turns.{found_at}
use Rattle.tt_world.proofs.Simulation.Knowing.{unknown-beyond, known-there}
use Rattle.tt_world.proofs.world.World.is_known.Goals as goal

pub returns-then-place-len : goal.returns-then-place-len
returns-then-place-len c =
    let w : WorldState = the_view c.self.inside in
    let m = c.args.machine in
    let p = c.from-place.result in
    let x : MachineState = c.index.result.now in
    let inside : p < length w.machines = omega (arith, c.len.ensures, c.if-place-len.true) in
    let found : slice_get w.machines m ≡ Some x = found_at w.machines p m x c.from-place.ensures inside c.index.ensures in
    record { value = λ configs past stands. c.is_known.ensures ∙ known-there configs (accepted configs past) w (c.self.view_is ∙ stands) m c.args.source x found }

pub returns-else-place-len : goal.returns-else-place-len
returns-else-place-len c =
    let w : WorldState = the_view c.self.inside in
    let m = c.args.machine in
    let beyond : length w.machines ≤ m = omega (arith, c.len.ensures, c.from-place.ensures, c.if-place-len.false) in
    record { value = λ configs past stands. le-ltb c.from-place.result c.len.result c.if-place-len.false ∙ unknown-beyond configs (accepted configs past) w (c.self.view_is ∙ stands) m c.args.source beyond }
