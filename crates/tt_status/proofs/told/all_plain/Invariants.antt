-- Each byte so far is plain.
use Rattle.std.proofs.Common.{◌≡◌, drop}
use Rattle.std.specs.List.{list_all}
use Rattle.tt_status.specs.Told.{is_plain_byte}
use Rattle.tt_status.proofs.told.all_plain.Given as goal

abbrev pub invariant-loop-byte : goal.invariant-loop-byte
invariant-loop-byte l = list_all (is_plain_byte l.least) (drop l.byte-index l.bytes) ≡ list_all (is_plain_byte l.least) l.bytes
