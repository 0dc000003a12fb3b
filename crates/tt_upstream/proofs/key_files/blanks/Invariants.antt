use Rattle.std.proofs.Common.{◌≡◌, ◌+◌, drop}
use Rattle.std.specs.List.{prefix_len}
use Rattle.tt_upstream.specs.KeyFile.{is_blank}
use Rattle.tt_upstream.proofs.key_files.blanks.Given as goal

-- the bytes so far, and those behind that pass
abbrev pub invariant-bytes : goal.invariant-bytes
invariant-bytes l = l.i + prefix_len is_blank (drop l.i l.line) ≡ prefix_len is_blank l.line
