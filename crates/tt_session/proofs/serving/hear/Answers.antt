use Rattle.std.proofs.Common.{◌≡◌, ◌+◌, ◌∷◌, [], ◌++◌, take, drop, get_or, sym, ap, ◌∙◌, take-append-drop}
use Rattle.std.proofs.lemmas.List.{take_more}
use Rattle.tt_session.proofs.Hearing.{BreaksIn-more, on_err}
use Rattle.tt_session.proofs.serving.hear.Goals as goal

pub returns-in_err-take-clause-err : goal.returns-in_err-take-clause-err
returns-in_err-take-clause-err g c =
    let bytes = c.args.bytes.now in
    let i = c.loop-byte.byte-index in
    let is : bytes ≡ (take i bytes ++ get_or bytes i 0 ∷ []) ++ drop (i + 1) bytes =
    sym (take-append-drop (i + 1) bytes) ∙ ap (λ l. l ++ drop (i + 1) bytes) (take_more bytes i 0 c.loop-byte-test.true) in
    on_err c.from_residual.result
    (BreaksIn-more g.S.Service.allows c.args.waits g.W.ByteWriter.taken g.W.ByteWriter.flushed _ _ _ _ _ _ _ _ (take i bytes) (get_or bytes i 0 ∷ []) (drop (i + 1) bytes) bytes is c.loop-byte.invariant.flushed c.loop-byte.invariant.stands c.in_err-take.ensures.err)
