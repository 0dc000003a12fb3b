use Rattle.std.proofs.Common.{IfSome, IfNone, ◌≡◌, true, subst, sym, arith}
use Rattle.tt_stamp.specs.Book.{is_among, IsPlaceOf}
use Rattle.tt_stamp.proofs.Places.{IsPlaceOf-last, IsPlaceOf-searched, is_among-searched}
use Rattle.tt_stamp.proofs.books.place_of.Goals as goal

pub returns-then-stamps-end-clause-new : goal.returns-then-stamps-end-clause-new
returns-then-stamps-end-clause-new c =
    IsPlaceOf-last c.args.stamps.now c.args.stamp _ c.requires (omega arith) (omega arith) c.if-stamps-end.true

pub returns-clause-new : goal.returns-clause-new
returns-clause-new c =
    subst (λ o. IfSome o (λ place. IsPlaceOf c.args.stamps.now c.args.stamp place)) (sym c.err.ensures.value) (IsPlaceOf-searched c.args.stamps.now c.args.stamp c.binary_search.result c.requires c.binary_search.ensures.position)

pub returns-clause-there : goal.returns-clause-there
returns-clause-there c =
    subst (λ o. IfNone o (is_among c.args.stamps.now c.args.stamp ≡ true)) (sym c.err.ensures.value) (is_among-searched c.args.stamps.now c.args.stamp c.binary_search.result c.requires c.binary_search.ensures.position)
