use Rattle.std.proofs.Common.{ℕ, nat_lt, rules}
use Rattle.std.proofs.lemmas.List.Sorted.{IsPartitionPoint-from_clause, IsPartitionedBy-ltb}
use Rattle.tt_stamp.proofs.Ascending.{IsNonDecreasingBy-ascends}
use Rattle.tt_stamp.proofs.standings.count_below.Goals as goal

pub returns-clause-divided : goal.returns-clause-divided
returns-clause-divided g c =
    let parted = IsPartitionedBy-ltb (λ (e : ℕ × g.row.V.Denot). e.0) c.args.entries.now c.args.key (IsNonDecreasingBy-ascends c.args.entries.now c.requires) in
    IsPartitionPoint-from_clause (λ (e : ℕ × g.row.V.Denot). nat_lt (e.0) c.args.key) c.args.entries.now c.partition_point.result c.partition_point.ensures.partitioned parted (λ a r q k. search rules)
