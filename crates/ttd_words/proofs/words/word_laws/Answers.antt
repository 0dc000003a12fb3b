use Rattle.std.proofs.Common.{inl, refl}
use Rattle.clap.proofs.OnLiterals.{clap_on_literals}
use Rattle.ttd_words.specs.CommandLine.{faults_of, named_by, ttd_app}
use Rattle.ttd_words.proofs.ParsedWords.{asked_request, commands_complete, never_memory, words_judged}
use Rattle.ttd_words.proofs.words.word_laws.Goals as goal

pub returns : goal.returns
unfolding clap_on_literals ttd_app faults_of named_by
returns c = record {
  total = asked_request;
  judged = words_judged;
  complete = commands_complete;
  fair = never_memory;
  nothing = inl refl;
  help = (refl, refl, refl);
  age = refl;
}
