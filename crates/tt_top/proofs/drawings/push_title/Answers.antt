use Rattle.std.specs.Prelude.{string_bytes, codes}
use Rattle.tt_top.specs.Drawing.{title_text}
use Rattle.tt_top.specs.Head.{head_text}
use Rattle.tt_top.proofs.Appending.{three_on_ok}
use Rattle.tt_top.proofs.drawings.push_title.Goals as goal

pub returns : goal.returns
unfolding title_text
returns c =
    three_on_ok c.push_word-2.result (string_bytes c.args.text.now) _ _ _ (codes "<h1>") (head_text c.args.view.now) (codes "</h1>\n") c.in_ok-push_word.ensures c.in_ok-push_head.ensures c.push_word-2.ensures
