use Rattle.std.proofs.Common.{refl, arith}
use Rattle.tt_seal.proofs.Comparing.{gathered_more, gathered_all}
use Rattle.tt_seal.proofs.secrets.is_same_secret.Goals as goal

pub bytes-init : goal.bytes-init
bytes-init c = record { same = λ z k below. absurd (omega arith); zero_at_equal = λ e. refl }

pub bytes-preserved : goal.bytes-preserved
bytes-preserved c = gathered_more c.args.one.now c.args.other.now c.bytes.differing c.bytes.i c.bytes.invariant

pub returns : goal.returns
returns c = record {
  value = gathered_all c.args.one.now c.args.other.now c.bytes.differing c.bytes.i (omega arith) (omega arith) c.bytes.invariant;
}
