use Rattle.std.proofs.Common.{refl, sym, arith}
use Rattle.tt_stamp.proofs.books.has_session.Goals as goal

pub returns-then-index-session : goal.returns-then-index-session
returns-then-index-session c =
    (λ _. (c.index.result.now.0, c.index.result.now.1, (c.loop-place.place, omega (arith, c.loop-place-test.true, c.len-place-end.ensures), sym c.index.ensures), c.if-index-session.true), λ _. refl)
