-- What is gone from the bytes is heard, its replies are handed over, the post went on, and nothing failed.
use Rattle.std.proofs.Common.{◌≡◌, ◌≤◌, ◌+◌, ◌++◌, List, ℕ, length}
use Rattle.tt_session.specs.Session.{StaysFlushed}
use Rattle.tt_connections.specs.Together.{IsPartOfLine}
use Rattle.tt_connections.specs.Turns.{PostGoesOn}
use Rattle.tt_connections.specs.Visits.{TurnsOn, visit_of}
use Rattle.tt_connections.proofs.visits.take_turn.Given as goal

abbrev pub invariant-loop-rest : goal.invariant-loop-rest
invariant-loop-rest g l =
    record {
      stands : (done : List ℕ) × (l.bytes ≡ done ++ l.rest)
          × TurnsOn g.C.Clock.gives g.C.Clock.failed g.V.Presence.says l.waits (g.O.ByteWriter.taken l.initial.writer) (g.O.ByteWriter.taken l.writer) l.initial.station.client
          done (visit_of l.initial.station l.initial.talk) l.initial.station.post (visit_of l.station l.talk) l.station.post;
      client : l.station.client ≡ l.initial.station.client;
      goes : PostGoesOn l.initial.station.post l.station.post;
      part : IsPartOfLine l.talk.line;
      few : l.talk.served.lines + length l.rest ≤ l.initial.talk.served.lines + length l.bytes;
      flushed : StaysFlushed g.O.ByteWriter.flushed l.initial.writer l.writer;
      sound : g.O.ByteWriter.failed l.writer ≡ g.O.ByteWriter.failed l.initial.writer;
    }

abbrev pub decreases-loop-rest : goal.decreases-loop-rest
decreases-loop-rest g l = length l.rest
