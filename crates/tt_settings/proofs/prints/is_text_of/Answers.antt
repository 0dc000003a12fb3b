use Rattle.std.proofs.Common.{ap, ◌∙◌, rules}
use Rattle.std.specs.Net.Text.{socket_text}
use Rattle.tt_settings.proofs.Behind.{whole_behind, is_whole}
use Rattle.tt_settings.proofs.prints.is_text_of.Goals as goal

pub returns-in-Some : goal.returns-in-Some
returns-in-Some c =
    let whole = ap is_whole c.behind_socket.ensures ∙ whole_behind (socket_text c.args.address) c.args.text.now in
    rw (← whole, c.in-Some.is, c.is_empty.ensures) (search rules)

pub returns-in-None : goal.returns-in-None
returns-in-None c =
    let whole = ap is_whole c.behind_socket.ensures ∙ whole_behind (socket_text c.args.address) c.args.text.now in
    rw (← whole, c.in-None.is) (search rules)
