use Rattle.std.proofs.Common.{◌≡◌}
use Rattle.tt_top.specs.Width.{kept_by, slot_of, after_slots}
use Rattle.tt_top.proofs.widths.Widths.see.Given as goal

abbrev pub invariant-loop-step : goal.invariant-loop-step
invariant-loop-step l = (kept_by l.self ≡ after_slots l._step (kept_by l.fn.self)) × (slot_of l.self ≡ slot_of l.fn.self)
