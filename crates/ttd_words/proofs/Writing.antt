-- What was written where passing it on failed.
use Rattle.std.proofs.Common.{ℕ, List, Option, length, take, sym, subst}
use Rattle.std.specs.Io.KnownBytes.{Appends, Keeps}
use Rattle.std.proofs.KnownBytes.{Appends-kept}
use Rattle.std.proofs.Math.Seq.{take-length}

-- all of the bytes are a front of them
pub all_written : (old mid new : Option (List ℕ)) (bytes : List ℕ) → Appends old mid bytes → Keeps mid new → (n : ℕ) × Appends old new (take n bytes)
all_written old mid new bytes written kept = (length bytes, subst (Appends old new) (sym (take-length bytes)) (Appends-kept old mid new bytes written kept))
