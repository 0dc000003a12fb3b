use Rattle.std.proofs.Common.{sym, option_copied}
use Rattle.tt_settings.proofs.Behind.{behind_nothing, later_step}
use Rattle.tt_settings.proofs.prints.behind_later.Goals as goal

pub loop-segment-init : goal.loop-segment-init
loop-segment-init c = sym (behind_nothing (option_copied c.args.text))

pub loop-segment-preserved : goal.loop-segment-preserved
loop-segment-preserved c =
    let step = later_step c.args.segments.now c.loop-segment.segment-index (option_copied c.args.text) (option_copied c.loop-segment.rest) c.loop-segment-test.true c.loop-segment.invariant in
    rw (c.behind_hex-rest.ensures, c.behind.ensures) step
