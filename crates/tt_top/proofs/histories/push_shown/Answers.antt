use Rattle.std.proofs.Common.{length}
use Rattle.std.specs.Prelude.{string_bytes, codes}
use Rattle.tt_top.specs.History.{path_start, steps_text}
use Rattle.tt_top.specs.Spark.{most_of}
use Rattle.tt_top.proofs.Appending.{three_on_ok}
use Rattle.tt_top.proofs.histories.push_shown.Goals as goal

pub returns : goal.returns
returns c =
    let shown = c.args.shown.now in
    three_on_ok c.push_word.result (string_bytes c.args.text.now) _ _ _ (path_start c.args.base (length shown)) (steps_text (most_of shown) shown) (codes "\"/>\n")
    (rw c.count-number.ensures.value at c.in_ok-push_start.ensures) (rw c.most-greatest.ensures at c.in_ok-push_steps.ensures) c.push_word.ensures
