use Rattle.std.proofs.Common.{drop, arith, length-drop}
use Rattle.std.proofs.lemmas.List.{drop_all}
use Rattle.tt_cert.proofs.Parts.{bad_below, bad_above, bad_end, whole}
use Rattle.tt_cert.proofs.reading.parts_of.Goals as goal

pub returns-in_err-below : goal.returns-in_err-below
returns-in_err-below c =
    let text = c.args.text.now in
    rw c.from_residual-in_err-below.ensures (bad_below text c.in_ok-claim.claim (drop c.in_ok-claim.after_claim text) c.in_ok-claim.ensures.1 c.in_ok-left.left.items (drop c.in_ok-left.after_left text) c.in_ok-left.ensures.1 c.in_ok-right.right.items (drop c.in_ok-right.after_right text) c.in_ok-right.ensures.1 c.in_err-below.ensures)

pub returns-in_err-above : goal.returns-in_err-above
returns-in_err-above c =
    let text = c.args.text.now in
    rw c.from_residual-in_err-above.ensures (bad_above text c.in_ok-claim.claim (drop c.in_ok-claim.after_claim text) c.in_ok-claim.ensures.1 c.in_ok-left.left.items (drop c.in_ok-left.after_left text) c.in_ok-left.ensures.1 c.in_ok-right.right.items (drop c.in_ok-right.after_right text) c.in_ok-right.ensures.1 c.in_ok-below.below.items (drop c.in_ok-below.after_below text) c.in_ok-below.ensures.1 c.in_err-above.ensures)

pub returns-then-end-text : goal.returns-then-end-text
returns-then-end-text c =
    let text = c.args.text.now in
    bad_end text c.in_ok-claim.claim (drop c.in_ok-claim.after_claim text) c.in_ok-claim.ensures.1 c.in_ok-left.left.items (drop c.in_ok-left.after_left text) c.in_ok-left.ensures.1 c.in_ok-right.right.items (drop c.in_ok-right.after_right text) c.in_ok-right.ensures.1 c.in_ok-below.below.items (drop c.in_ok-below.after_below text) c.in_ok-below.ensures.1 c.in_ok-above.above.items (drop c.in_ok-above.end text) c.in_ok-above.ensures.1 (omega (arith, c.if-end-text.true, length-drop c.in_ok-above.end text))

pub returns : goal.returns
returns c =
    let text = c.args.text.now in
    whole text c.in_ok-claim.claim (drop c.in_ok-claim.after_claim text) c.in_ok-claim.ensures.1 c.in_ok-left.left.items (drop c.in_ok-left.after_left text) c.in_ok-left.ensures.1 c.in_ok-right.right.items (drop c.in_ok-right.after_right text) c.in_ok-right.ensures.1 c.in_ok-below.below.items (drop c.in_ok-below.after_below text) c.in_ok-below.ensures.1 c.in_ok-above.above.items (drop c.in_ok-above.end text) c.in_ok-above.ensures.1 (drop_all c.in_ok-above.end text c.if-end-text.false) c.new.result c.new.ensures
