-- The bytes before, the word and the numbers so far, each of at most 20 digits behind a space.
use Rattle.std.proofs.Common.{◌≡◌, ◌≤◌, ◌+◌, ◌*◌, ◌++◌, length, take}
use Rattle.std.specs.List.{flat_map}
use Rattle.tt_text.specs.Line.{space_and_number}
use Rattle.tt_text.proofs.writing.put_line.Given as goal

abbrev pub invariant-loop-number : goal.invariant-loop-number
invariant-loop-number g l =
    record {
      written : l.bytes.items ≡ (l.fn.bytes.items ++ l.word) ++ flat_map space_and_number (take l.number-index l.numbers);
      fits : length l.bytes.items ≤ length l.fn.bytes.items + length l.word + 21 * l.number-index;
    }
