use Rattle.std.proofs.Common.{◌≡◌, ◌<◌, List, [], ◌∷◌, ◌++◌, length, map, ap, sym, subst, ◌∙◌, arith, below_more}
use Rattle.std.proofs.lemmas.List.{get_or_default}
use Rattle.std.proofs.lemmas.List.FromFn.{map-range_with_len_more, length-map-range_with_len}
use Rattle.std.specs.List.{range_with_len}
use Rattle.tt_daemon.specs.Config.{Configuration, IsConfiguration, no_configuration}
use Rattle.tt_world.specs.Life.{life_at}
use Rattle.tt_world.specs.Config.{config_at}
use Rattle.tt_world.specs.Private.Machine.{MachineState, machine_of}
use Rattle.tt_world.proofs.world.World.new.Goals as goal

pub loop-number-preserved : goal.loop-number-preserved
loop-number-preserved c =
    let n = c.loop-number.number in
    let inside : n < length c.args.configs.now = c.loop-number-test.true in
    let config : c.index-configs-number.result ≡ config_at c.args.configs.now n =
    c.index-configs-number.is ∙ get_or_default c.args.configs.now n c.index-configs-number.result no_configuration inside in
    let pushed = rw c.in_ok-push.was at c.push.ensures.items in
    record {
      fresh =
          pushed
          ∙ ap (λ (ms : List MachineState). ms ++ c.new.result ∷ []) c.loop-number.invariant.fresh
          ∙ ap (λ (x : MachineState). map (λ m. machine_of (config_at c.args.configs.now m) [] (life_at [] m)) (range_with_len 0 n) ++ x ∷ [])
          (c.new.ensures.fresh ∙ ap (λ (k : Configuration). machine_of k [] (life_at [] n)) config)
          ∙ sym (map-range_with_len_more (λ m. machine_of (config_at c.args.configs.now m) [] (life_at [] m)) 0 n n (omega arith));
      valid = below_more _ _ c.loop-number.invariant.valid (subst (λ (k : Configuration). IsConfiguration k) config c.new.ensures.valid);
    }

pub invariant_of-result : goal.invariant_of-result
invariant_of-result c = (
  record {
    few_machines = omega (arith, ap (λ (ms : List MachineState). length ms) c.loop-number.invariant.fresh, length-map-range_with_len (λ m. machine_of (config_at c.args.configs.now m) [] (life_at [] m)) 0 c.loop-number.number);
  },
  λ k d h. absurd (omega (arith, h, c.new-3.ensures.len)),
)
