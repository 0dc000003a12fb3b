-- The names so far, and those of the rest of the path.
use Rattle.std.proofs.Common.{◌≡◌, ◌++◌, drop}
use Rattle.tt_settings.specs.Path.{plain, walked}
use Rattle.tt_settings.proofs.paths.plain.Given as goal

abbrev pub invariant-loop-byte : goal.invariant-loop-byte
invariant-loop-byte l = l.names.items ++ walked l.place (drop l.byte-index l.path) ≡ plain l.path
