use Rattle.std.proofs.Common.{◌≡◌, ℕ, [], Some, Result, Ok, IfOk, sym, ap, subst, ◌∙◌}
use Rattle.tt_span.specs.Interval.{Interval, whole}
use Rattle.tt_stamp.specs.Stamp.{stamp_of}
use Rattle.tt_stamp.specs.declared.faults.StampFault.{StampFault}
use Rattle.tt_stamp_rows.proofs.First.{stamp_of-first, greatest_of-given_after}
use Rattle.tt_stamp_rows.proofs.answers.row_after.Goals as goal

pub returns-in-Ok : goal.returns-in-Ok
returns-in-Ok c =
    let latest : c.of.result.hi ≡ c.args.last = ap (λ (i : Interval). i.hi) (c.of.ensures ∙ c.in-Ok.ensures.value) in
    let lease : c.whole.result ≡ whole = c.whole.ensures in
    let first : stamp_of [] c.of.result.hi 0 c.whole.result ≡ Ok c.args.last = rw (latest, lease) (stamp_of-first c.args.last c.requires) in
    let IsGiven : Result ℕ StampFault → Type 0 = λ r. IfOk r (λ s. c.stamp.new.self ≡ Some s) in
    subst IsGiven (c.stamp.ensures.value [] (sym c.new-row.ensures) ∙ first) c.stamp.ensures.last
    ∙ sym (greatest_of-given_after c.args.last c.if-last-gt0.true)
