-- A writer is closed for a cause alone.
use Rattle.std.proofs.Common.{◌≡◌, ℕ, ◌+◌, ◌^◌, ◌<◌, Bool, true, false, not, Option, Some, None, is_some, Result, Ok, Err, inl, inr, refl, ap, ◌∙◌}
use Rattle.std.specs.Prelude.{OnErr, OnOk, IsErrOf}
use Rattle.tt_stream.specs.Counts.{HasFailed}
use Rattle.tt_span.specs.Time.{max_time}
use Rattle.tt_shared.specs.declared.slots.SharedSpan.{SharedSpan}
use Rattle.tt_shared.specs.declared.faults.WriteFault.{WriteFault}
use Rattle.tt_shared.specs.declared.faults.WriteFault.TheVariants as fault
use Rattle.tt_shared.specs.Writing.{Write, TellerState, StopsShort}
use Rattle.tt_status.specs.declared.lines.LogEvent.{LogEvent}
use Rattle.tt_sharing.specs.declared.sharing.Sharing.{Sharing}
use Rattle.tt_sharing.specs.Share.{CannotWrite, IsOpen, number_in, broken_after, told_of}

-- what refused a publication
pub cannot : {P : Type 0} (does : P → Write → Bool → P → Type 0) (failed : P → ℕ) (span : SharedSpan) (old new : TellerState P) (result : Result (Unit {0}) WriteFault) →
    (IsErrOf result fault.Broken → old.broken ≡ true) → (IsErrOf result fault.UsedUp → old.count + 1 ≡ 2 ^ 64) → (IsErrOf result fault.ClockBack → max_time < span.fused.clock) →
    (IsErrOf result fault.Failed → StopsShort does old.count span old.place new.place × HasFailed (failed old.place) (failed new.place)) →
    (IsErrOf result fault.CannotOpen → ⊥) → (IsErrOf result fault.Locked → ⊥) → (IsErrOf result fault.OtherClock → ⊥) → OnErr result (CannotWrite does failed span old)
cannot does failed span old new (Ok done) broken used_up back stopped opens locked other = tt
cannot does failed span old new (Err fault.Broken) broken used_up back stopped opens locked other = inl (broken refl)
cannot does failed span old new (Err fault.UsedUp) broken used_up back stopped opens locked other = inr (inl (used_up refl))
cannot does failed span old new (Err fault.ClockBack) broken used_up back stopped opens locked other = inr (inr (inl (back refl)))
cannot does failed span old new (Err fault.Failed) broken used_up back stopped opens locked other = inr (inr (inr (new.place, (stopped refl).0, (stopped refl).1)))
cannot does failed span old new (Err fault.CannotOpen) broken used_up back stopped opens locked other = absurd (opens refl)
cannot does failed span old new (Err fault.Locked) broken used_up back stopped opens locked other = absurd (locked refl)
cannot does failed span old new (Err fault.OtherClock) broken used_up back stopped opens locked other = absurd (other refl)

-- the writer that was open is the one that was taken
pub same_open : {P : Type 0} (opens : TellerState P → Type 0) (held : Option (TellerState P)) (teller before : TellerState P) → IsOpen opens held teller → held ≡ Some before → teller ≡ before
same_open opens (Some held) teller before is e = is ∙ cc
same_open opens None teller before is e = absurd cc

pub on_err : {A E : Type 0} (Q : Type 0) (result : Result A E) → Q → OnErr result Q
on_err Q (Ok a) q = tt
on_err Q (Err e) q = q

-- whether a number is there, by the test for none
is_there : (b s : Bool) → s ≡ true → s ≡ not b → b ≡ true → ⊥
is_there true s there test none = absurd cc
is_there false s there test none = absurd cc

is_not_there : (b s : Bool) → s ≡ false → s ≡ not b → b ≡ false → ⊥
is_not_there true s there test some = absurd cc
is_not_there false s there test some = absurd cc

-- a try that did not fail has no number, and was done
pub no_number : (tried : Result (Unit {0}) WriteFault) (number : Option ℕ) (b : Bool) → number ≡ number_in tried → is_some number ≡ not b → b ≡ true → number ≡ None
no_number (Ok done) number b is test none = is
no_number (Err fault) number b is test none = absurd (is_there b (is_some number) (ap is_some is) test none)

pub was_done : (tried : Result (Unit {0}) WriteFault) (number : Option ℕ) (b : Bool) {Q : Type 0} → number ≡ number_in tried → is_some number ≡ not b → b ≡ true → OnOk tried Q → Q
was_done (Ok done) number b is test none q = q
was_done (Err fault) number b is test none q = absurd (is_there b (is_some number) (ap is_some is) test none)

-- a try that failed has a cause
pub was_caused : (tried : Result (Unit {0}) WriteFault) (number : Option ℕ) (b : Bool) {Q : Type 0} → number ≡ number_in tried → is_some number ≡ not b → b ≡ false → OnErr tried Q → Q
was_caused (Ok done) number b is test some q = absurd (is_not_there b (is_some number) (ap is_some is) test some)
was_caused (Err fault) number b is test some q = q

-- what is kept after a publication was written, and what is logged
pub kept_is : {O P : Type 0} (old written now : Sharing O P) (after : TellerState P) (span : SharedSpan) (number : Option ℕ) (poll clock : ℕ) →
    now ≡ record written { broken = broken_after written.broken number poll clock } → written ≡ record old { teller = Some after; last = Some span } → number ≡ None →
    now ≡ record old { teller = Some after; last = Some span; broken = None }
kept_is old written now after span number poll clock kept is none = kept ∙ rw (is, none) refl

pub told_is : {O P : Type 0} (old written : Sharing O P) (after : TellerState P) (span : SharedSpan) (number : Option ℕ) (event : Option LogEvent) →
    event ≡ told_of (is_some written.broken) number → written ≡ record old { teller = Some after; last = Some span } → number ≡ None → event ≡ told_of (is_some old.broken) None
told_is old written after span number event told is none = told ∙ rw (is, none) refl
