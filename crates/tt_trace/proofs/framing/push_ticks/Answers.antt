use Rattle.std.proofs.Common.{refl}
use Rattle.std.specs.Prelude.{string_bytes}
use Rattle.tt_trace.specs.Framing.{tick_group}
use Rattle.tt_trace.proofs.Ranging.{branch_more}
use Rattle.tt_trace.proofs.framing.push_ticks.Goals as goal

pub loop-number-preserved : goal.loop-number-preserved
loop-number-preserved c =
    branch_more (tick_group c.args.machines c.args.sheet.now) (string_bytes c.args.text.now) (string_bytes c.loop-number.text) (string_bytes c.push_tick.new.text) _ c.loop-number.number
    c.in_ok-push_tick.ensures c.loop-number.invariant refl
