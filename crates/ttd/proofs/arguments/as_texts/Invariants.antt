-- The texts so far are those of the words so far.
use Rattle.std.proofs.Common.{◌≡◌, map, take, string_bytes}
use Rattle.clap.specs.Walk.{texts}
use Rattle.ttd.proofs.arguments.as_texts.Given as goal

abbrev pub invariant-loop-word : goal.invariant-loop-word
invariant-loop-word l = texts l.all.items ≡ map string_bytes (take l.word-index l.words)
