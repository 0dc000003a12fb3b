-- All that was read so far was dropped, and the socket was looked at alone.
use Rattle.std.proofs.Common.{◌≡◌, List, Option, length}
use Rattle.tt_rounds.specs.Hearing.{Arrived, Drops}
use Rattle.tt_rounds.specs.Sockets.{Datagram, Looks}
use Rattle.tt_rounds.proofs.round_links.drain.Given as goal

abbrev pub invariant-loop : goal.invariant-loop
invariant-loop g l =
    record {
      whole : length l.buffer ≡ 64;
      drops : (dropped : List Arrived) × Drops l.wire dropped l.initial.table l.table;
      looks : (gave : List (Option Datagram)) × Looks g.S.PacketSocket.does l.initial.hosts.socket gave l.hosts.socket;
      addresses : l.hosts.addresses ≡ l.initial.hosts.addresses;
      six : l.hosts.is_six ≡ l.initial.hosts.is_six;
    }
