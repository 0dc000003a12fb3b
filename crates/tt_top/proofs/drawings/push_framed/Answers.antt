use Rattle.std.specs.Prelude.{string_bytes, codes}
use Rattle.std.specs.List.{flat_map}
use Rattle.tt_top.specs.Drawing.{escaped, framed_text}
use Rattle.tt_top.proofs.Appending.{three_on_ok}
use Rattle.tt_top.proofs.drawings.push_framed.Goals as goal

pub returns : goal.returns
unfolding framed_text
returns c =
    three_on_ok c.push_word-2.result (string_bytes c.args.text.now) _ _ _ (codes "<pre class=\"signs\">") (flat_map escaped c.args.bytes.now) (codes "</pre>\n")
    c.in_ok-push_word.ensures c.in_ok-push_escaped.ensures c.push_word-2.ensures
