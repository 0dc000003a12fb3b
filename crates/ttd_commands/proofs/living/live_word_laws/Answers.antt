use Rattle.std.proofs.Common.{refl}
use Rattle.clap.proofs.OnLiterals.{clap_on_literals}
use Rattle.ttd_words.specs.CommandLine.{faults_of, named_by, ttd_app}
use Rattle.ttd_commands.proofs.living.live_word_laws.Goals as goal

pub returns : goal.returns
unfolding clap_on_literals ttd_app faults_of named_by
returns c = record { live = ((refl, refl), refl); help = refl }
