use Rattle.std.proofs.Common.{ap, arith}
use Rattle.std.specs.Prelude.{string_bytes}
use Rattle.tt_world.specs.Config.{config_at}
use Rattle.tt_trace.specs.Tree.{branch_text}
use Rattle.tt_trace.specs.Framing.{lane_group}
use Rattle.tt_trace.proofs.Ranging.{branch_more}
use Rattle.tt_trace.proofs.Seeking.{config_there}
use Rattle.tt_trace.proofs.framing.push_lanes.Goals as goal

pub loop-number-preserved : goal.loop-number-preserved
loop-number-preserved c =
    branch_more (λ m. lane_group c.args.sheet.now m (config_at c.args.configs.now m)) (string_bytes c.args.text.now) (string_bytes c.loop-number.text) (string_bytes c.push_lane.new.text) _ c.loop-number.number
    c.in_ok-push_lane.ensures c.loop-number.invariant
    (ap (λ config. branch_text (lane_group c.args.sheet.now c.loop-number.number config)) (config_there c.args.configs.now c.loop-number.number _ (omega arith) c.index-configs-number.is))
