use Rattle.std.proofs.Common.{◌≡◌, length, bit_xor, rules, ◌∙◌, ap, map, arith}
use Rattle.tt_seal.proofs.Padding.{map_more, map_done}
use Rattle.tt_seal.proofs.hmac.padded.Goals as goal

pub bytes-preserved : goal.bytes-preserved
bytes-preserved c =
    let len : length c.bytes.pad ≡ 64 = c.bytes.invariant.0 in (
      search rules,
      map_more (bit_xor c.args.byte) c.block_of-block.result c.bytes.pad c.bytes.i (omega arith) (omega arith) c.bytes.invariant.1,
    )

pub returns : goal.returns
returns c =
    let len : length c.bytes.pad ≡ 64 = c.bytes.invariant.0 in
    map_done (bit_xor c.args.byte) c.bytes.i c.block_of-block.result c.bytes.pad (omega arith) (omega arith) c.bytes.invariant.1 ∙ ap (map (bit_xor c.args.byte)) c.block_of-block.ensures
