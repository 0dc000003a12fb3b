use Rattle.tt_world.proofs.Histories.Legal.{legal_book}
use Rattle.tt_world.specs.Config.{config_at}
use Rattle.tt_world.specs.Bad.{accepted}
use Rattle.tt_world.proofs.Headline.Running.{readings-hold, fusions-shortest, no-fusion-refused}
use Rattle.tt_world.proofs.Headline.Committed.{stamps-least, stamps-in-leases, leases-keep-apart, externally-consistent}
use Rattle.tt_world.proofs.Headline.Breaking.{meets-no_breach}
use Rattle.tt_world.proofs.Headline.Laws.{accepted-reply, taken-makes}
use Rattle.tt_world.proofs.runs.run_laws.Goals as goal

pub returns : goal.returns
returns c = record {
  readings_hold = readings-hold;
  externally_consistent = externally-consistent;
  no_fusion_refused = no-fusion-refused;
  fusions_are_shortest = fusions-shortest;
  stamps_are_least = stamps-least;
  stamps_in_leases = stamps-in-leases;
  leases_keep_apart = leases-keep-apart;
  breaches = meets-no_breach;
  accepted = accepted-reply;
  taken = taken-makes;
  legal_books = λ configs past life. legal_book (config_at configs life.machine) (accepted configs past) life;
}
