use Rattle.std.proofs.Common.{nat_lt, refl, arith, rules}
use Rattle.std.proofs.lemmas.List.Sorted.{IsPartitionPoint-from_clause, IsPartitionedBy-ltb}
use Rattle.tt_stamp.proofs.InOrder.{IsPartitionPoint-all}
use Rattle.tt_stamp.proofs.books.count_below.Goals as goal

pub returns-then-last-stamp-clause-divided : goal.returns-then-last-stamp-clause-divided
returns-then-last-stamp-clause-divided c =
    let some = c.in-Some.ensures.variant.0 refl in
    IsPartitionPoint-all c.args.waiting.now.items c.args.stamp _ c.len.result c.in-Some.last.now c.requires (omega (arith, some)) (omega (arith, c.len.ensures)) c.in-Some.ensures.lookup c.if-last-stamp.true

pub returns-clause-divided : goal.returns-clause-divided
returns-clause-divided c =
    let parted = IsPartitionedBy-ltb (λ commit. commit.0) _ c.args.stamp c.requires in
    IsPartitionPoint-from_clause (λ commit. nat_lt commit.0 c.args.stamp) _ _ c.partition_point.ensures.partitioned parted (λ a r q k. search rules)
