-- Each byte so far may stand in a label.
use Rattle.std.proofs.Common.{◌≡◌, drop}
use Rattle.std.specs.List.{list_all}
use Rattle.tt_settings.specs.Socket.{is_label_byte}
use Rattle.tt_settings.proofs.names.are_label_bytes.Given as goal

abbrev pub invariant-loop-byte : goal.invariant-loop-byte
invariant-loop-byte l = list_all is_label_byte (drop l.byte-index l.label) ≡ list_all is_label_byte l.label
