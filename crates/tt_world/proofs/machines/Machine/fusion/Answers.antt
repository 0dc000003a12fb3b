use Rattle.std.proofs.Common.{◌≡◌, ap, subst, arith}
use Rattle.std.specs.Prelude.{MatchResult, Ok, Err}
use Rattle.tt_daemon.specs.Fault.{number_of}
use Rattle.tt_publish.specs.Reading.{fused_span_of}
use Rattle.tt_world.specs.Private.Step.{fusion_on}
use Rattle.tt_daemon.specs.Daemon.{IsForward}
use Rattle.tt_world.specs.contracts.machines.Machine.{the_view}
use Rattle.tt_world.specs.Private.Machine.{MachineState}
use Rattle.tt_world.proofs.Simulation.Fused.{fusion-answered}
use Rattle.tt_world.proofs.machines.Machine.fusion.Goals as goal

pub returns-clause-value : goal.returns-clause-value
returns-clause-value c =
    let m : MachineState = the_view c.self.inside in
    let forward : IsForward m.daemon c.args.clock = record {
      not_back = omega (arith, c.self.invariant.table_behind, c.requires.forward, ap (λ (v : MachineState). v.clock) c.self.view_is);
      in_time = c.requires.in_time;
    } in
    subst (λ (v : MachineState). MatchResult c.fuse.result (λ p. fusion_on v c.args.clock ≡ Ok (fused_span_of p)) (λ e. fusion_on v c.args.clock ≡ Err (number_of e))) c.self.view_is
    (fusion-answered m c.args.clock c.fuse.result (record {
      forward = forward;
      fused = c.fuse.ensures.fused;
      back = λ e. c.fuse.ensures.clock_back.0 e;
      unknown = λ e. (c.fuse.ensures.unknown.0 e).1;
      no_point = λ e. (c.fuse.ensures.no_point.0 e).1;
      answered = λ e. (c.fuse.ensures.answered.0 e).1;
      found = c.fuse.ensures.found_slowly forward;
    }))
