use Rattle.std.proofs.Common.{◌≡◌}
use Rattle.tt_rounds.proofs.Hearing.{does-send}
use Rattle.tt_rounds.proofs.round_links.RoundLinkLink.send.Goals as goal

pub returns-clause-did : goal.returns-clause-did
returns-clause-did g c =
    let place : c.send-fate.new.self.hosts.addresses.items ≡ c.args.self.now.hearing.hosts.addresses.items = cc in
    rw (c.settle.ensures.hosts, c.settle.ensures.wire)
    (does-send g.S.PacketSocket.does _ _ _ _ _ _ _ _ _ c.settle.result c.send-fate.ensures.sends c.send-fate.ensures.wire place c.send-fate.ensures.six)
