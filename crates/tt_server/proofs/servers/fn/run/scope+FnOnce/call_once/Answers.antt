-- What is known of the handle and of the machine goes on into the scope, part for part.
use Rattle.std.proofs.Common.{rules}
use Rattle.tt_server.proofs.servers.fn.run.scope+FnOnce.call_once.Goals as goal

pub scope-requires : goal.scope-requires
scope-requires g c = (search rules, (search rules, (search rules, search rules)))
