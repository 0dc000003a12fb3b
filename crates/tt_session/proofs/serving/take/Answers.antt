use Rattle.std.proofs.Common.{◌≡◌, take, drop, [], sym, ◌∙◌, append-nil, take-append-drop}
use Rattle.std.proofs.KnownBytes.{Appends-nil, Appends-kept}
use Rattle.tt_session.specs.Replies.{text_of}
use Rattle.tt_session.proofs.Following.{Steps-kept}
use Rattle.tt_session.proofs.Hearing.{TalksOn-steps, BreaksIn-answered, on_ok, on_err}
use Rattle.tt_session.proofs.serving.take.Goals as goal

pub returns-then-byte-ne10-clause-ok : goal.returns-then-byte-ne10-clause-ok
returns-then-byte-ne10-clause-ok g c =
    let allows = g.S.Service.allows in
    TalksOn-steps allows c.args.waits _ _ _ _ _ _ _ _ _
    (Steps-kept allows c.args.waits c.args.service.now c.args.talk.now c.keep.new.self c.args.byte c.if-byte-ne10.true c.keep.ensures.same c.keep.ensures.kept) (Appends-nil _)

pub returns-in_err-write_all-clause-err : goal.returns-in_err-write_all-clause-err
returns-in_err-write_all-clause-err g c =
    let bytes = c.as_slice.result.now in
    let is : bytes ≡ text_of c.end_line-judged.result.reply = c.as_slice.ensures.value ∙ c.text-text.ensures in
    let (n, part, written) = c.in_err-write_all.ensures.err in
    on_err c.from_residual.result
    (rw c.if-byte-ne10.false
    (BreaksIn-answered g.S.Service.allows c.args.waits g.W.ByteWriter.taken g.W.ByteWriter.flushed _ _ _ _ c.args.talk.now c.end_line-judged.new.self c.end_line-judged.result.reply _ (take n bytes) (drop n bytes)
    c.end_line-judged.ensures.steps c.end_line-judged.ensures.empty (sym is ∙ sym (take-append-drop n bytes)) written))

pub returns-clause-ok : goal.returns-clause-ok
returns-clause-ok g c =
    let is = c.as_slice.ensures.value ∙ c.text-text.ensures in
    let written = Appends-kept _ _ _ _ c.in_ok-write_all.ensures.ok c.flush.ensures.bytes in
    on_ok c.flush.result
    (rw c.if-byte-ne10.false
    (TalksOn-steps g.S.Service.allows c.args.waits _ _ _ _ c.args.talk.now c.end_line-judged.new.self _ (text_of c.end_line-judged.result.reply) _
    c.end_line-judged.ensures.steps (rw (← is) written)))

pub returns-clause-err : goal.returns-clause-err
returns-clause-err g c =
    let text = text_of c.end_line-judged.result.reply in
    let is = c.as_slice.ensures.value ∙ c.text-text.ensures in
    let written = Appends-kept _ _ _ _ c.in_ok-write_all.ensures.ok c.flush.ensures.bytes in
    on_err c.flush.result
    (rw c.if-byte-ne10.false
    (BreaksIn-answered g.S.Service.allows c.args.waits g.W.ByteWriter.taken g.W.ByteWriter.flushed _ _ _ _ c.args.talk.now c.end_line-judged.new.self c.end_line-judged.result.reply _ text []
    c.end_line-judged.ensures.steps c.end_line-judged.ensures.empty (sym (append-nil text)) (rw (← is) written)))
