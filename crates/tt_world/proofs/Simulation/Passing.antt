-- Receipts among the entries of a book.
use Rattle.std.proofs.Common.{◌≡◌, ℕ, ◌+◌, ◌-◌, ◌<◌, ◌≤◌, List, [], ◌∷◌, ◌++◌, length, length-append, take, drop, map, get_or, ap, sym, ◌∙◌, arith}
use Rattle.std.proofs.Math.ListN.{length-map}
use Rattle.std.proofs.Math.Seq.{drop-append_seam}
use Rattle.std.proofs.lemmas.List.{take_more, take_all, get_or-map}
use Rattle.tt_stamp.specs.declared.commits.Id.{Id}
use Rattle.tt_stamp.specs.declared.commits.Receipt.{Receipt}
use Rattle.tt_stamp.specs.declared.commits.Entry.{Entry}
use Rattle.tt_stamp.specs.declared.commits.Entry.TheVariants.{Queued, Passed}

-- the entries of receipts
abbrev pub entries_of : List Receipt → List Entry
entries_of receipts = map (λ receipt. Passed receipt) receipts

-- entry i of receipts is the one of receipt i
passed-at : (receipts : List Receipt) (i : ℕ) (receipt : Receipt) (d : Entry) → i < length receipts → get_or (entries_of receipts) i d ≡ Passed (get_or receipts i receipt)
passed-at receipts i receipt d inside = get_or-map (λ (r : Receipt). Passed r) receipts i receipt d inside

-- one more receipt was added
pub one-more : (entries : List Entry) (receipts : List Receipt) (i : ℕ) (d : Entry) (receipt : Receipt) → i < length entries → entries ≡ entries_of receipts → get_or entries i d ≡ Passed receipt →
    take (i + 1) receipts ≡ take i receipts ++ receipt ∷ []
one-more entries receipts i d receipt inside all here =
    let within : i < length receipts = omega (arith, ap (λ (es : List Entry). length es) all, length-map receipts (λ (r : Receipt). Passed r)) in
    let same : Passed (get_or receipts i receipt) ≡ Passed receipt = sym (passed-at receipts i receipt d within) ∙ ap (λ (es : List Entry). get_or es i d) (sym all) ∙ here in
    let value : get_or receipts i receipt ≡ receipt = cc in
    take_more receipts i receipt within ∙ ap (λ (r : Receipt). take i receipts ++ r ∷ []) value

-- no entry of receipts is of a commit that was queued
pub no-other : (entries : List Entry) (receipts : List Receipt) (i : ℕ) (d : Entry) (id : Id) (stamp : ℕ) (receipt : Receipt) → i < length entries → entries ≡ entries_of receipts → get_or entries i d ≡ Queued id stamp → ⊥
no-other entries receipts i d id stamp receipt inside all here =
    let within : i < length receipts = omega (arith, ap (λ (es : List Entry). length es) all, length-map receipts (λ (r : Receipt). Passed r)) in
    let same : Passed (get_or receipts i receipt) ≡ Queued id stamp = sym (passed-at receipts i receipt d within) ∙ ap (λ (es : List Entry). get_or es i d) (sym all) ∙ here in
    cc

-- the last entries of a history that ends with receipts
pub last-entries : (history before : List Entry) (receipts : List Receipt) (count : ℕ) → history ≡ before ++ entries_of receipts → count ≡ length receipts →
    take (length history - (length history - count)) (drop (length history - count) history) ≡ entries_of receipts
last-entries history before receipts count ends counted =
    let start : length history - count ≡ length before = omega (arith, ap (λ (es : List Entry). length es) ends, length-append before (entries_of receipts), length-map receipts (λ (r : Receipt). Passed r), counted) in
    let dropped : drop (length history - count) history ≡ entries_of receipts =
    ap (λ (n : ℕ). drop n history) start ∙ ap (λ (es : List Entry). drop (length before) es) ends ∙ drop-append_seam before (entries_of receipts) in
    let all : length (entries_of receipts) ≤ length history - (length history - count) =
    omega (arith, ap (λ (es : List Entry). length es) ends, length-append before (entries_of receipts), length-map receipts (λ (r : Receipt). Passed r), counted) in
    ap (λ (es : List Entry). take (length history - (length history - count)) es) dropped ∙ take_all (length history - (length history - count)) (entries_of receipts) all
