-- No read has failed so far.
use Rattle.std.proofs.Common.{◌≡◌}
use Rattle.ttd.proofs.lines.read_line.Given as goal

abbrev pub invariant-loop : goal.invariant-loop
invariant-loop g l = g.R.ByteReader.failed l.reader ≡ g.R.ByteReader.failed l.initial.reader
