use Rattle.std.proofs.lemmas.Result.{IfOk-weaker}
use Rattle.clap.specs.Kinds.{FailsBy, Kinds}
use Rattle.clap.specs.Walk.{texts}
use Rattle.ttd_words.proofs.ParsedWords.{parsed_fails, parsed_named}
use Rattle.ttd_words.proofs.words.parsed.Goals as goal

pub returns : goal.returns
returns c =
    let ws = texts c.args.words.now in
    let app = c.in_ok-ttd_command.ensures.app in
    let parse = c.try_get_matches_from in
    record {
      named = IfOk-weaker parse.result _ _ (λ m h. parsed_named _ ws m app h) parse.ensures.matches;
      fails = parsed_fails _ ws app (λ (k : Kinds). FailsBy k parse.result) parse.ensures.kinds;
    }
