use mir.Val.{to_z, of_z}
use mir.Syntax.{w128}
use Rattle.std.proofs.Common.{◌≡◌, ℕ, ◌<◌, ◌≤◌, length, get_or, ap, arith}
use Rattle.std.specs.Prelude.{ℤ, pos}
use Rattle.tt_fuse.specs.Scaled.{low_end_of, high_end_of}
use Rattle.tt_fuse.proofs.Pairing.{key-handed, none-ordered, first-and-last}
use Rattle.tt_fuse.proofs.scaled.first_and_last_at.Goals as goal

pub returns-then-first-starts : goal.returns-then-first-starts
returns-then-first-starts c =
    none-ordered c.args.drift c.args.clock c.args.starts.now c.args.ends.now c.requires.enough
    (λ k inside. c.first_in_order-first.ensures.before k (omega (arith, inside, c.if-first-starts.true)))

pub returns : goal.returns
returns c =
    let first : ℕ = c.first_in_order-first.result in
    let last : ℕ = c.last_in_order-last.result in
    let enough : length c.args.starts.now ≤ length c.args.ends.now = c.requires.enough in
    let first_in : first < length c.args.starts.now = omega (arith, c.first_in_order-first.ensures.within, c.if-first-starts.false) in
    let last_in : last < length c.args.starts.now = c.last_in_order-last.ensures.within in
    let last_in_ends : last < length c.args.ends.now = omega arith in
    let start : ℤ = get_or c.args.starts.now first (pos 0) in
    let end : ℤ = get_or c.args.ends.now last (pos 0) in
    let start_handed : to_z w128 (of_z w128 start) ≡ start = key-handed start (c.requires.starts_in_range first (pos 0) first_in) in
    let end_handed : to_z w128 (of_z w128 end) ≡ end = key-handed end (c.requires.ends_in_range last (pos 0) last_in_ends) in
    first-and-last c.args.drift c.args.clock c.args.starts.now c.args.ends.now c.requires.enough first last c.low_end.result c.high_end.result first_in last_in
    (c.first_in_order-first.ensures.there first_in) c.last_in_order-last.ensures.there
    (omega (arith, c.low_end.ensures, ap (low_end_of c.args.drift c.args.clock) start_handed))
    (omega (arith, c.high_end.ensures, ap (high_end_of c.args.drift c.args.clock) end_handed))
    c.first_in_order-first.ensures.before c.last_in_order-last.ensures.after
