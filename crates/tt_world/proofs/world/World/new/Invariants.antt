use Rattle.std.proofs.Common.{◌≡◌, ◌<◌, ℕ, [], map}
use Rattle.std.specs.List.{range_with_len}
use Rattle.tt_daemon.specs.Config.{IsConfiguration}
use Rattle.tt_world.specs.Life.{life_at}
use Rattle.tt_world.specs.Config.{config_at}
use Rattle.tt_world.specs.Private.Machine.{machine_of}
use Rattle.tt_world.proofs.world.World.new.Given as goal

-- the machines so far know nothing yet, and can be set up so
abbrev pub invariant-loop-number : goal.invariant-loop-number
invariant-loop-number l = record {
  fresh : l.machines.items ≡ map (λ m. machine_of (config_at l.configs m) [] (life_at [] m)) (range_with_len 0 l.number);
  valid : (m : ℕ) → m < l.number → IsConfiguration (config_at l.configs m);
}
