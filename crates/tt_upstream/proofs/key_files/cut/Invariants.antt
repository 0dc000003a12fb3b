use Rattle.std.proofs.Common.{take}
use Rattle.tt_upstream.specs.KeyFile.{HasNoFeed}
use Rattle.tt_upstream.proofs.key_files.cut.Given as goal

abbrev pub invariant-bytes : goal.invariant-bytes
invariant-bytes l = HasNoFeed (take l.i l.text)
