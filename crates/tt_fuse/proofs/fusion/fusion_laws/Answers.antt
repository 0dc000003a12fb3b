use Rattle.std.proofs.Common.{◌≤◌, arith}
use Rattle.tt_span.specs.Time.{max_time}
use Rattle.tt_fuse.proofs.Possible.{depth-from_possible, possible-from_depth, unique-IsFusion, lo-IsFusion, hi-IsFusion}
use Rattle.tt_fuse.proofs.Overlap.{within-some, within-some_other}
use Rattle.tt_fuse.proofs.Slowly.{fusion-found_slowly, none-found_slowly}
use Rattle.tt_fuse.proofs.fusion.fusion_laws.Goals as goal

pub returns-clause-possible : goal.returns-clause-possible
returns-clause-possible c spans f x =
    (λ p. (p.in_time, depth-from_possible spans f x p), λ h. possible-from_depth spans f x h.0 h.1)

pub returns-clause-unique : goal.returns-clause-unique
returns-clause-unique c = unique-IsFusion

pub returns-clause-ends_possible : goal.returns-clause-ends_possible
returns-clause-ends_possible c spans f i m =
    let in_time : i.hi ≤ max_time = m.interval.in_time in
    let ordered : i.lo ≤ i.hi = m.interval.ordered in
    (possible-from_depth spans f i.lo (omega arith) (lo-IsFusion spans f i m), possible-from_depth spans f i.hi in_time (hi-IsFusion spans f i m))

pub returns-clause-found_slowly : goal.returns-clause-found_slowly
returns-clause-found_slowly c = fusion-found_slowly

pub returns-clause-none_slowly : goal.returns-clause-none_slowly
returns-clause-none_slowly c = none-found_slowly

pub returns-clause-in_a_source : goal.returns-clause-in_a_source
returns-clause-in_a_source c = within-some

pub returns-clause-in_a_right_source : goal.returns-clause-in_a_right_source
returns-clause-in_a_right_source c = within-some_other
