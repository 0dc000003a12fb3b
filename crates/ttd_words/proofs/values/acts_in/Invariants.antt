-- What was read, before what is still to be read.
use Rattle.std.proofs.Common.{◌≡◌, ◌++◌, Ok, drop}
use Rattle.clap.specs.Walk.{texts}
use Rattle.ttd_words.specs.Fault.{◌>>=◌}
use Rattle.ttd_words.specs.Reading.{acts_in}
use Rattle.ttd_words.proofs.values.acts_in.Given as goal

abbrev pub invariant-loop-text : goal.invariant-loop-text
invariant-loop-text l =
    acts_in (texts l.given) ≡ (acts_in (texts (drop l.text-index l.given)) >>= (λ acts. Ok (l.acts.items ++ acts)))
