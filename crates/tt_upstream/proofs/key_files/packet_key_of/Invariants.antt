use Rattle.std.proofs.Common.{◌≡◌, length}
use Rattle.tt_upstream.specs.KeyFile.{key_among, lines_of}
use Rattle.tt_upstream.proofs.key_files.packet_key_of.Given as goal

-- what the lines behind give is what all give
abbrev pub invariant-lines : goal.invariant-lines
invariant-lines l = key_among l.number (lines_of l.rest) ≡ key_among l.number (lines_of l.text)

abbrev pub decreases-lines : goal.decreases-lines
decreases-lines l = length l.rest
