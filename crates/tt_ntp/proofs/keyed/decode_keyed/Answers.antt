use Rattle.std.proofs.Common.{arith}
use Rattle.tt_ntp.proofs.Opening.{found_as}
use Rattle.tt_ntp.proofs.keyed.decode_keyed.Goals as goal

pub returns-clause-found : goal.returns-clause-found
returns-clause-found c = found_as c.args.query c.args.key.now c.args.bytes.now c.read.result (λ i. omega (arith, c.type_inv.bytes i)) c.read.ensures
