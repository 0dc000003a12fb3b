-- No text so far is there again.
use Rattle.std.proofs.Common.{◌≡◌, drop}
use Rattle.clap.specs.Walk.{texts}
use Rattle.ttd_words.specs.Reading.{has_twice}
use Rattle.ttd_words.proofs.masters.has_twice.Given as goal

abbrev pub invariant-loop-place : goal.invariant-loop-place
invariant-loop-place l = has_twice (texts (drop l.place l.given)) ≡ has_twice (texts l.given)
