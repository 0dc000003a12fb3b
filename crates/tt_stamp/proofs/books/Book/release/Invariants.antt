use Rattle.std.proofs.Common.{◌≡◌, ◌+◌, length}
use Rattle.tt_stamp.specs.History.{waiting_of, release_of, with_receipts}
use Rattle.tt_stamp.proofs.books.Book.release.Given as goal

-- what is still to be released leads to the same history, and is one less for each commit that went
abbrev pub invariant-loop : goal.invariant-loop
invariant-loop l = record {
  same_end : with_receipts (release_of (waiting_of l.self) l.earliest) l.self
      ≡ with_receipts (release_of (waiting_of l.fn.self) l.earliest) l.fn.self;
  left : length (release_of (waiting_of l.self) l.earliest) + l.counter ≡ l.count;
}
