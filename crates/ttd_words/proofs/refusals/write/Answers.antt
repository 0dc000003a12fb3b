use Rattle.std.proofs.lemmas.Result.{on_err_weaker}
use Rattle.ttd_words.proofs.Writing.{all_written}
use Rattle.ttd_words.proofs.refusals.write.Goals as goal

pub returns-clause-err : goal.returns-clause-err
returns-clause-err g c = on_err_weaker c.flush.result (λ _. all_written _ _ _ _ c.in_ok-write_all.ensures.ok c.flush.ensures.bytes) c.flush.ensures.cause
