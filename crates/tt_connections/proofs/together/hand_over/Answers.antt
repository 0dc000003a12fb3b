use Rattle.std.proofs.Common.{length, sym, subst, arith, take_all}
use Rattle.std.specs.Io.KnownBytes.{Appends}
use Rattle.std.proofs.KnownBytes.{Appends-kept}
use Rattle.tt_session.proofs.Hearing.{on_err}
use Rattle.tt_connections.proofs.together.hand_over.Goals as goal

pub returns-clause-err : goal.returns-clause-err
returns-clause-err g c =
    let bytes = c.args.bytes.now in
    let written = Appends-kept _ _ _ bytes c.in_ok-write_all.ensures.ok c.flush.ensures.bytes in
    on_err c.flush.result (length bytes, subst (λ l. Appends (g.W.ByteWriter.taken c.args.writer.now) (g.W.ByteWriter.taken c.flush.new.self) l) (sym (take_all (length bytes) bytes (omega arith))) written)
