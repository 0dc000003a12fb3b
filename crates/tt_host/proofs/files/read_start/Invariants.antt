-- What was read so far has room.
use Rattle.std.proofs.Common.{◌≡◌, ◌≤◌, length}
use Rattle.tt_host.proofs.files.read_start.Given as goal

abbrev pub invariant-loop : goal.invariant-loop
invariant-loop l =
    record {
      within : l.count ≤ length l.bytes;
      len : length l.bytes ≡ length l.initial.bytes;
    }
