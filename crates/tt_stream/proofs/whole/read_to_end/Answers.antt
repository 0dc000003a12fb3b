use Rattle.std.proofs.Common.{◌+◌, arith}
use Rattle.std.proofs.KnownBytes.{Consumes-trans}
use Rattle.std.proofs.lemmas.Result.{err_from_is_err_and}
use Rattle.tt_stream.proofs.Reading.{CountsOn-more, longer}
use Rattle.tt_stream.proofs.whole.read_to_end.Goals as goal

pub returns-in_err-read_piece-clause-too_long : goal.returns-in_err-read_piece-clause-too_long
returns-in_err-read_piece-clause-too_long g c is_too_long =
    let p = err_from_is_err_and c.from_residual.result c.from_residual.ensures.1 in
    let came = c.in_err-read_piece.ensures.too_long (cc (p.1, p.2)) in
    longer _ _ _ _ _ _ c.loop.invariant.came came.2 (omega (arith, came.1, c.loop.whole.ok.0))

pub returns-in_err-read_piece-clause-memory : goal.returns-in_err-read_piece-clause-memory
returns-in_err-read_piece-clause-memory g c is_memory =
    let p = err_from_is_err_and c.from_residual.result c.from_residual.ensures.1 in
    let came = c.in_err-read_piece.ensures.memory (cc (p.1, p.2)) in
    longer _ _ _ _ _ _ c.loop.invariant.came came.2 (omega (arith, came.1))

pub returns-in_err-read_piece-clause-rest : goal.returns-in_err-read_piece-clause-rest
returns-in_err-read_piece-clause-rest g c =
    let rest = c.read_piece.ensures.rest in
    (_, Consumes-trans _ _ _ _ _ c.loop.invariant.came rest.1)

pub returns-in_err-read_piece-clause-turns : goal.returns-in_err-read_piece-clause-turns
returns-in_err-read_piece-clause-turns g c =
    (c.loop.counter + 1, omega arith, CountsOn-more _ _ _ _ c.loop.invariant.asked c.read_piece.ensures.asked)

pub returns-then-not-branch-clause-turns : goal.returns-then-not-branch-clause-turns
returns-then-not-branch-clause-turns g c =
    (c.loop.counter + 1, omega arith, CountsOn-more _ _ _ _ c.loop.invariant.asked c.read_piece.ensures.asked)
