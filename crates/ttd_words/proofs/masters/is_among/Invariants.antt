-- The text is none of those so far.
use Rattle.std.proofs.Common.{◌≡◌, drop}
use Rattle.clap.specs.Walk.{texts}
use Rattle.ttd_words.specs.Reading.{is_among}
use Rattle.ttd_words.proofs.masters.is_among.Given as goal

abbrev pub invariant-loop-other : goal.invariant-loop-other
invariant-loop-other l = is_among l.text (texts (drop l.other-index l.others)) ≡ is_among l.text (texts l.others)
