-- What it is to judge a note.
use Rattle.std.proofs.Common.{◌≤◌, ◌&&◌, inl, inr, nat_le, arith}
use Rattle.std.specs.Prelude.{IsTrue, ◌↔◌}
use Rattle.std.proofs.lemmas.Bool.{and_parts, and_from, leb-true, le-leb, cases_lt}
use Rattle.tt_span.specs.Interval.{IsInterval}
use Rattle.tt_audit.specs.declared.live.LiveNote.{LiveNote}
use Rattle.tt_audit.specs.Live.{HoldsSomeTime, holds_some_time}

-- a note is judged right exactly where some time between its two lies in its reading
pub HoldsSomeTime-computed : (note : LiveNote) → note.reading.lo ≤ note.reading.hi → IsTrue (holds_some_time note) ↔ HoldsSomeTime note
HoldsSomeTime-computed note ordered = (
  λ h.
      let outer = and_parts (nat_le note.before note.after && nat_le note.before note.reading.hi) (nat_le note.reading.lo note.after) h in
      let inner = and_parts (nat_le note.before note.after) (nat_le note.before note.reading.hi) outer.0 in
      let forward : note.before ≤ note.after = leb-true note.before note.after inner.0 in
      let begins : note.before ≤ note.reading.hi = leb-true note.before note.reading.hi inner.1 in
      let lasts : note.reading.lo ≤ note.after = leb-true note.reading.lo note.after outer.1 in
      elim (cases_lt note.before note.reading.lo) [
        | inl early ↦ (note.reading.lo, omega arith, lasts, (omega arith, ordered))
        | inr late ↦ (note.before, omega arith, forward, (late, begins))
      ],
  λ w. and_from (nat_le note.before note.after && nat_le note.before note.reading.hi) (nat_le note.reading.lo note.after)
      (and_from (nat_le note.before note.after) (nat_le note.before note.reading.hi) (le-leb note.before note.after (omega (arith, w.1, w.2))) (le-leb note.before note.reading.hi (omega (arith, w.1, w.3))))
      (le-leb note.reading.lo note.after (omega (arith, w.2, w.3))),
)

-- the law, of readings as they are
pub HoldsSomeTime-judged : (note : LiveNote) → IsInterval note.reading → IsTrue (holds_some_time note) ↔ HoldsSomeTime note
HoldsSomeTime-judged note valid = HoldsSomeTime-computed note valid.ordered
