use Rattle.std.proofs.Common.{refl, arith}
use Rattle.tt_shared.proofs.Resuming.{counted_list}
use Rattle.tt_shared.proofs.indexes.count_in.Goals as goal

pub returns : goal.returns
returns c =
    counted_list c.args.index.now c.from_le_bytes.result _ _ _ _ _ _ _ _ c.requires (λ i. omega (arith, c.type_inv.index i)) c.from_le_bytes.ensures
    refl refl refl refl refl refl refl refl
