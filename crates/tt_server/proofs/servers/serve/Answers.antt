use Rattle.tt_server.proofs.Living.{life-breaks}
use Rattle.tt_server.proofs.servers.serve.Goals as goal

pub returns-clause-breaks : goal.returns-clause-breaks
returns-clause-breaks g c = life-breaks _ _ c.serve_opened-ended.ensures.life
