use Rattle.std.proofs.Common.{◌≡◌, ◌≤◌, take, replicate, arith}
use Rattle.std.proofs.lemmas.List.{take-replicate}
use Rattle.tt_source.specs.Table.{unknown_source}
use Rattle.tt_source.proofs.tables.Table.resume.Goals as goal

pub returns : goal.returns
returns c =
    let few : c.args.n ≤ 16 = omega arith in
    let cut : take c.args.n (replicate 16 unknown_source) ≡ replicate c.args.n unknown_source = take-replicate c.args.n 16 unknown_source few in
    cc
