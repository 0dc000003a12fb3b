use Rattle.std.proofs.Common.{length, ap, arith}
use Rattle.tt_stamp.proofs.Histories.{length-waiting_of-le}
use Rattle.tt_stamp.proofs.books.Book.waiting.Goals as goal

pub returns-clause-bound : goal.returns-clause-bound
returns-clause-bound c =
    omega (arith, length-waiting_of-le _ c.self.invariant.legal, c.len.ensures, ap length c.self.invariant.waits)
