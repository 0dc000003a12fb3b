-- The numbers of the keys so far.
use Rattle.std.proofs.Common.{◌≡◌, ◌++◌, take}
use Rattle.std.specs.Prelude.{codes, string_bytes}
use Rattle.std.specs.List.{flat_map}
use Rattle.tt_outline.specs.Outline.{number_text}
use Rattle.tt_outline.proofs.outlines.push_keys.Given as goal

abbrev pub invariant-loop-number : goal.invariant-loop-number
invariant-loop-number l = string_bytes l.text ≡ string_bytes l.fn.text ++ codes " key" ++ flat_map number_text (take l.number-index l.numbers)
