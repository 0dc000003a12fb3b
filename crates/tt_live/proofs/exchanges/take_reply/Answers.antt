use Rattle.std.proofs.Common.{◌≡◌, length, arith}
use Rattle.tt_live.proofs.Taking.{too_long}
use Rattle.tt_live.proofs.exchanges.take_reply.Goals as goal

pub returns-in-Ok-next_byte-clause-too_long : goal.returns-in-Ok-next_byte-clause-too_long
returns-in-Ok-next_byte-clause-too_long g c is_too_long =
    let full : length c.loop.reply.items ≡ 128 = omega (arith, c.loop.invariant.count) in
    too_long _ _ _ _ _ c.loop.invariant.came c.in-Ok-next_byte.ensures.byte c.loop.invariant.no_end full
