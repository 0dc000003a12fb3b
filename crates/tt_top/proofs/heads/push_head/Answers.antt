use Rattle.std.specs.Prelude.{string_bytes}
use Rattle.tt_top.specs.Head.{life_text, faulty_text, head_text}
use Rattle.tt_top.proofs.Appending.{then_on_ok}
use Rattle.tt_top.proofs.heads.push_head.Goals as goal

pub returns : goal.returns
unfolding head_text
returns c =
    let view = c.args.view.now in
    then_on_ok c.push_faulty.result (string_bytes c.args.text.now) (string_bytes c.push_pieces.new.text) _ (life_text view) (faulty_text view.faulty)
    (rw c.len.ensures.value at c.in_ok-push_pieces.ensures) c.push_faulty.ensures
