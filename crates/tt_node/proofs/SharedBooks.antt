-- Earlier and later states of one history.
use Rattle.std.proofs.Common.{◌≡◌, ◌≤◌, ℕ, Result, Ok, Err, OnOk, OnErr, List, ◌∷◌, ◌++◌, map, length, reverse, drop, ap, sym, ◌∙◌, arith, append_assoc, length-append}
use Rattle.std.proofs.lemmas.List.{reverse-append, reverse-reverse}
use Rattle.std.proofs.Math.Seq.{drop-append_seam}
use mathlib.Core.List.{IsPrefix}
use Rattle.tt_stamp.specs.History.{waiting_of, release_of, with_receipts}
use Rattle.tt_stamp.specs.declared.commits.Entry.{Entry}
use Rattle.tt_stamp.specs.declared.commits.Entry.TheVariants.{Passed}
use Rattle.tt_stamp.specs.declared.commits.Receipt.{Receipt}
use Rattle.tt_stamp.proofs.Releases.{reverse-with_receipts}
use Rattle.tt_node.specs.SharedBooks.{GoesOn}

-- a list goes on from each of its beginnings, newest first
pub begins_goes_on : (xs ys : List Entry) → IsPrefix xs ys → GoesOn (reverse xs) (reverse ys)
begins_goes_on xs ys p = (reverse p.0, sym (ap reverse p.1) ∙ reverse-append xs p.0)

-- what begins the entries of a history, oldest first, is an earlier state of it, newest first
pub earlier_by : (xs ys past : List Entry) → IsPrefix xs ys → ys ≡ reverse past → GoesOn (reverse xs) past
earlier_by xs ys past p is = let goes = begins_goes_on xs ys p in (goes.0, sym (ap reverse is ∙ reverse-reverse past) ∙ goes.1)

goes_on_trans : (xs ys zs : List Entry) → GoesOn xs ys → GoesOn ys zs → GoesOn xs zs
goes_on_trans xs ys zs p q = (q.0 ++ p.0, q.1 ∙ (ap (λ w. q.0 ++ w) p.1 ∙ sym (append_assoc q.0 p.0 xs)))

-- whether a commit was queued or not, what is seen afterwards goes on from what was seen before
pub goes_on_queued : {F : Type 0} (P : Type 0) (answer : Result (Unit {0}) F) (old past new : List Entry) (entry : Entry) → GoesOn old past
    → OnOk answer (P × (new ≡ entry ∷ past)) → OnErr answer (new ≡ past) → GoesOn old new
goes_on_queued P (Ok u) old past new entry p ok err = (entry ∷ p.0, ok.1 ∙ ap (λ w. entry ∷ w) p.1)
goes_on_queued P (Err f) old past new entry p ok err = (p.0, err ∙ p.1)

-- the receipts that are put behind a history, newest first
behind : (receipts : List Receipt) (past : List Entry) → reverse (map (λ (r : Receipt). Passed r) receipts) ++ past ≡ with_receipts receipts past
behind receipts past =
    let m : List Entry = map (λ (r : Receipt). Passed r) receipts in
    sym (ap reverse (reverse-with_receipts past receipts) ∙ (reverse-append (reverse past) m ∙ ap (λ w. reverse m ++ w) (reverse-reverse past))
    ) ∙ reverse-reverse (with_receipts receipts past)

-- a history goes on by the receipts of a release
pub goes_on_released : (earliest : ℕ) (old past new : List Entry) → GoesOn old past → new ≡ with_receipts (release_of (waiting_of past) earliest) past → GoesOn old new
goes_on_released earliest old past new p is =
    let receipts = release_of (waiting_of past) earliest in
    goes_on_trans old past new p (reverse (map (λ (r : Receipt). Passed r) receipts), is ∙ sym (behind receipts past))

-- a history, oldest first, with what stands behind its first entries, where receipts were put behind those
pub receipts_behind : (receipts : List Receipt) (past : List Entry) → reverse past ++ drop (length (reverse past)) (reverse (with_receipts receipts past)) ≡ reverse (with_receipts receipts past)
receipts_behind receipts past =
    let m : List Entry = map (λ (r : Receipt). Passed r) receipts in
    ap (λ w. reverse past ++ drop (length (reverse past)) w) (reverse-with_receipts past receipts)
    ∙ (ap (λ w. reverse past ++ w) (drop-append_seam (reverse past) m) ∙ sym (reverse-with_receipts past receipts))

pub receipts_longer : (receipts : List Receipt) (past : List Entry) → length (reverse past) ≤ length (reverse (with_receipts receipts past))
receipts_longer receipts past = omega (arith, ap length (reverse-with_receipts past receipts), length-append (reverse past) (map (λ (r : Receipt). Passed r) receipts))
