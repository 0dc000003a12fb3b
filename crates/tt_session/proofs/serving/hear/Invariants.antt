-- The session stands behind the bytes so far, and nothing failed.
use Rattle.std.proofs.Common.{◌≡◌, ◌≤◌, ◌+◌, take}
use Rattle.tt_session.specs.Session.{StaysFlushed}
use Rattle.tt_session.specs.Talks.{TalksOn}
use Rattle.tt_session.proofs.serving.hear.Given as goal

abbrev pub invariant-loop-byte : goal.invariant-loop-byte
invariant-loop-byte g l =
    record {
      more : l.talk.served.lines ≤ l.initial.talk.served.lines + l.byte-index;
      stands : TalksOn g.S.Service.allows l.waits (g.W.ByteWriter.taken l.initial.writer) l.initial.service l.initial.talk (take l.byte-index l.bytes) (g.W.ByteWriter.taken l.writer) l.service l.talk;
      flushed : StaysFlushed g.W.ByteWriter.flushed l.initial.writer l.writer;
      sound : g.W.ByteWriter.failed l.writer ≡ g.W.ByteWriter.failed l.initial.writer;
    }
