-- All that was read so far was dropped, the wire is the same, and the waker stays woken.
use Rattle.std.proofs.Common.{◌≡◌, true, List, Option, length}
use Rattle.tt_rounds.specs.Hearing.{Arrived, Drops}
use Rattle.tt_rounds.specs.Sockets.{Datagram, Looks}
use Rattle.tt_rounds.proofs.round_links.Hearing.next.Given as goal

abbrev pub invariant-loop : goal.invariant-loop
invariant-loop g l =
    record {
      whole : length l.buffer ≡ 64;
      wire : l.self.wire ≡ l.initial.self.wire;
      drops : (dropped : List Arrived) × Drops l.initial.self.wire dropped l.initial.self.table l.self.table;
      looks : (gave : List (Option Datagram)) × Looks g.S.PacketSocket.does l.initial.self.hosts.socket gave l.self.hosts.socket;
      addresses : l.self.hosts.addresses ≡ l.initial.self.hosts.addresses;
      six : l.self.hosts.is_six ≡ l.initial.self.hosts.is_six;
      slots : l.self.table.slots ≡ l.initial.self.table.slots;
      woken : l.initial.self.woken ≡ true → l.self.woken ≡ true;
    }
