-- What is gone from the rest was written, and nothing failed.
use Rattle.std.proofs.Common.{◌≡◌, ◌++◌, List, ℕ, length}
use Rattle.std.specs.Io.KnownBytes.{Appends}
use Rattle.tt_stream.proofs.whole.write_all.Given as goal

abbrev pub invariant-loop-rest : goal.invariant-loop-rest
invariant-loop-rest g l =
    record {
      written : (done : List ℕ) × (l.bytes ≡ done ++ l.rest) × Appends (g.W.ByteWriter.taken l.initial.writer) (g.W.ByteWriter.taken l.writer) done;
      sound : g.W.ByteWriter.failed l.writer ≡ g.W.ByteWriter.failed l.initial.writer;
    }

abbrev pub decreases-loop-rest : goal.decreases-loop-rest
decreases-loop-rest g l = length l.rest
