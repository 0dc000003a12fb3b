use Rattle.tt_seal.proofs.Comparing.{IsGathered}
use Rattle.tt_seal.proofs.secrets.is_same_secret.Given as goal

abbrev pub invariant-bytes : goal.invariant-bytes
invariant-bytes l = IsGathered l.one l.other l.differing l.i
