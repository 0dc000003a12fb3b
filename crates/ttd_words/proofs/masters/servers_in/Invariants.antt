-- What was read, before what is still to be read.
use Rattle.std.proofs.Common.{◌≡◌, ◌++◌, Ok, drop}
use Rattle.clap.specs.Walk.{texts}
use Rattle.ttd_words.specs.Fault.{◌>>=◌}
use Rattle.ttd_words.specs.Reading.{servers_in}
use Rattle.ttd_words.proofs.masters.servers_in.Given as goal

abbrev pub invariant-loop-text : goal.invariant-loop-text
invariant-loop-text l =
    servers_in (texts l.given) ≡ (servers_in (texts (drop l.text-index l.given)) >>= (λ servers. Ok (l.servers.items ++ servers)))
