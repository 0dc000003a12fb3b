use Rattle.std.proofs.Common.{◌≡◌, ℕ, ◌+◌, Bool, true, false, cond, List, take, Some, subst, sym, ◌∙◌, ap, ap₂, arith}
use Rattle.std.proofs.lemmas.Option.{slice_get-get_or}
use Rattle.tt_audit.specs.Violations.{Answered, answered_of, violations_of}
use Rattle.tt_audit.specs.Ordering.{KeepsOrder}
use Rattle.tt_audit.proofs.Following.{answered_of-more}
use Rattle.tt_audit.proofs.ordering.violations.Goals as goal
use Rattle.tt_audit.proofs.ordering.violations.Goals.{then-note, else-note}

pub note-requires : goal.note-requires
note-requires c =
    c.requires.placed c.loop-number.number c.index-events-number.result c.index-replies-number.result
    (slice_get-get_or c.args.events.now c.loop-number.number c.index-events-number.result c.loop-number-test.true ∙ ap Some (sym c.index-events-number.is))
    (slice_get-get_or c.args.replies.now c.loop-number.number c.index-replies-number.result (omega (arith, c.requires.long)) ∙ ap Some (sym c.index-replies-number.is))

pub loop-number-preserved : goal.loop-number-preserved
loop-number-preserved c =
    let events = c.args.events.now in
    let replies = c.args.replies.now in
    let n : ℕ = c.loop-number.number in
    let event = c.index-events-number.result in
    let reply = c.index-replies-number.result in
    let before : List Answered = answered_of (take n events) (take n replies) in
    let more = answered_of-more events replies n event reply c.loop-number-test.true (omega (arith, c.requires.long)) c.index-events-number.is c.index-replies-number.is in
    let late = c.note.ensures.late before c.loop-number.invariant.keeps in
    let counted : (b : Bool) → c.note.result ≡ b → violations_of (answered_of (take (n + 1) events) (take (n + 1) replies)) ≡ cond b (c.loop-number.count + 1) c.loop-number.count =
    λ b is. ap violations_of more ∙ ap₂ (λ (t : Bool) (k : ℕ). cond t (k + 1) k) (sym late ∙ is) (sym c.loop-number.invariant.counted) in
    record {
      keeps = subst (λ (all : List Answered). KeepsOrder all c.note.new.self) (sym more) (c.note.ensures.keeps before c.loop-number.invariant.keeps);
      counted = elim c.if-note.branch [
        | then-note w ↦ w.count-is ∙ sym (counted true w.if-note.true)
        | else-note w ↦ w.count-is ∙ sym (counted false w.if-note.false)
      ];
      few = elim c.if-note.branch [
        | then-note w ↦ omega (arith, w.count-is, c.loop-number.invariant.few)
        | else-note w ↦ omega (arith, w.count-is, c.loop-number.invariant.few)
      ];
    }
