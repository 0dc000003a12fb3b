use Rattle.std.proofs.Common.{decimal, option_copied}
use Rattle.std.specs.Net.Addr.{ipv6_segments}
use Rattle.std.specs.Net.Text.{ipv6_text, scope_text}
use Rattle.tt_settings.proofs.Behind.{socket_parts}
use Rattle.tt_settings.proofs.prints.behind_socket_v6.Goals as goal

pub returns : goal.returns
returns c =
    let a = c.args.address in
    rw (c.behind_decimal.ensures, c.from.ensures, c.port.ensures, c.behind-rest-2.ensures, c.behind_scope-rest.ensures, c.scope_id.ensures, c.behind_v6-rest.ensures, c.ip.ensures, c.behind-rest.ensures)
    (socket_parts (ipv6_text (ipv6_segments a.ip)) (scope_text a.scope_id) (decimal a.port) (option_copied c.args.text))
