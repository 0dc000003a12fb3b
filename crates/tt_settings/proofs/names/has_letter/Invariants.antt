-- No byte so far is a letter.
use Rattle.std.proofs.Common.{◌≡◌, drop}
use Rattle.std.specs.List.{list_any}
use Rattle.tt_settings.specs.Socket.{is_letter}
use Rattle.tt_settings.proofs.names.has_letter.Given as goal

abbrev pub invariant-loop-byte : goal.invariant-loop-byte
invariant-loop-byte l = list_any is_letter (drop l.byte-index l.label) ≡ list_any is_letter l.label
