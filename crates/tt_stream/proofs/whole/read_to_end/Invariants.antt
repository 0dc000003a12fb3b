-- What came so far is what was read, one byte at least by each read, and nothing failed.
use Rattle.std.proofs.Common.{◌≡◌, ◌≤◌, vec_len}
use Rattle.std.specs.Io.KnownBytes.{Consumes}
use Rattle.tt_stream.specs.Counts.{CountsOn}
use Rattle.tt_stream.proofs.whole.read_to_end.Given as goal

abbrev pub invariant-loop : goal.invariant-loop
invariant-loop g l =
    record {
      short : vec_len l.whole ≤ l.most;
      came : Consumes (g.R.ByteReader.left l.initial.reader) (g.R.ByteReader.left l.reader) l.whole.items;
      sound : g.R.ByteReader.failed l.reader ≡ g.R.ByteReader.failed l.initial.reader;
      asked : CountsOn l.counter (g.R.ByteReader.asked l.initial.reader) (g.R.ByteReader.asked l.reader);
      each : l.counter ≤ vec_len l.whole;
    }
