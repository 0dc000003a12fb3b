use Rattle.std.proofs.Common.{◌≡◌, ◌≤◌, ℕ, List, take, replicate, sym, ◌∙◌, ap, arith}
use Rattle.std.proofs.lemmas.List.{take-replicate, append-nil}
use Rattle.tt_fuse.proofs.scaled.lows_of.Goals as goal

pub loop-source-init : goal.loop-source-init
loop-source-init c =
    let zero_time : ℕ = 0 in
    let few : c.args.unknown ≤ 16 = omega arith in
    let all : List ℕ = replicate 16 zero_time in
    let from : c.from-ends.result.items ≡ all = c.from-ends.ensures.0 in
    c.truncate.ensures.items ∙ ap (take c.args.unknown) from ∙ take-replicate c.args.unknown 16 zero_time few ∙ sym (append-nil (replicate c.args.unknown zero_time))
