-- The first stamp of a row.
use Rattle.std.proofs.Common.{◌≡◌, ℕ, ◌+◌, ◌<◌, ◌≤◌, nat_lt, true, false, [], Some, Ok, refl, max, arith}
use Rattle.std.proofs.lemmas.Bool.{le-ltb, lt-ltb}
use Rattle.tt_span.specs.Time.{max_time}
use Rattle.tt_span.specs.Interval.{whole}
use Rattle.tt_stamp.specs.Stamp.{max_ahead, least_from, stamp_of, greatest_of}
use Rattle.tt_stamp_rows.specs.Asked.{given_after}

-- with no floor, in a lease of the whole of time, the first one is the latest of the reading
pub stamp_of-first : (latest : ℕ) → latest ≤ max_time → stamp_of [] latest 0 whole ≡ Ok latest
stamp_of-first latest in_time =
    let near : nat_lt (latest + max_ahead) 0 ≡ false = le-ltb _ _ (omega arith) in
    let least : least_from [] latest 0 whole ≡ latest = omega arith in
    let left : nat_lt max_time latest ≡ false = le-ltb _ _ in_time in
    rw (near, least, left) refl

-- where a stamp was given, it is the greatest one
pub greatest_of-given_after : (last : ℕ) → 0 < last → greatest_of (given_after last) ≡ Some last
greatest_of-given_after last given =
    let some : nat_lt 0 last ≡ true = lt-ltb _ _ given in
    let greatest : max last 0 ≡ last = omega arith in
    rw (some, greatest) refl
