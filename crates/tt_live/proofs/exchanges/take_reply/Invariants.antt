-- What came so far has no line feed, and no read has failed.
use Rattle.std.proofs.Common.{◌≡◌, length}
use Rattle.std.specs.Io.KnownBytes.{Consumes}
use Rattle.tt_live.specs.Exchange.{HasNoEnd}
use Rattle.tt_live.proofs.exchanges.take_reply.Given as goal

abbrev pub invariant-loop : goal.invariant-loop
invariant-loop g l =
    record {
      count : length l.reply.items ≡ l.counter;
      came : Consumes (g.I.ByteReader.left l.initial.reader) (g.I.ByteReader.left l.reader) l.reply.items;
      no_end : HasNoEnd l.reply.items;
      sound : g.I.ByteReader.failed l.reader ≡ g.I.ByteReader.failed l.initial.reader;
    }
