-- What is dropped before a round changes nothing that is kept of the peers, and the socket is looked at alone.
use Rattle.std.proofs.Common.{◌≡◌, List, Option}
use Rattle.tt_rounds.specs.Sockets.{Datagram, Looks}
use Rattle.tt_rounds.proofs.round_links.Hearing.begin.Given as goal

abbrev pub invariant-loop : goal.invariant-loop
invariant-loop g l =
    record {
      table : l.self.table ≡ l.initial.self.table;
      wire : l.self.wire ≡ l.initial.self.wire;
      looks : (gave : List (Option Datagram)) × Looks g.S.PacketSocket.does l.initial.self.hosts.socket gave l.self.hosts.socket;
      addresses : l.self.hosts.addresses ≡ l.initial.self.hosts.addresses;
      six : l.self.hosts.is_six ≡ l.initial.self.hosts.is_six;
    }
