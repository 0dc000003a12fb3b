use Rattle.std.proofs.Common.{◌≡◌, reverse, take}
use Rattle.tt_stamp.specs.Forgetting.{without_session}
use Rattle.tt_stamp.proofs.books.Book.without.Given as goal

-- what the other sessions did so far was done once more
abbrev pub invariant-loop-entry : goal.invariant-loop-entry
invariant-loop-entry l = l.kept ≡ without_session l.session (reverse (take l.entry-index l.entry-items))
