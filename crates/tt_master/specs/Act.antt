-- What each act does.
use Rattle.std.specs.Prelude.{ℕ, ◌+◌, ◌-◌}
use Rattle.tt_span.specs.Time.{cut}
use Rattle.tt_span.specs.Interval.{Interval}
use Rattle.tt_master.specs.declared.acts.Act.{Act}
use Rattle.tt_master.specs.declared.acts.Act.TheVariants.{Honest, Ahead, Behind}

-- the act asks the reference for the time
abbrev pub IsTimed : Act → Type 0
IsTimed Honest = Unit {0}
IsTimed (Ahead _) = Unit {0}
IsTimed (Behind _) = Unit {0}
IsTimed _ = ⊥

-- how much later than an honest answer's are both ends of what the act answers
abbrev pub later_by : Act → ℕ
later_by (Ahead k) = k
later_by _ = 0

-- how much earlier than an honest answer's are both ends of what the act answers
abbrev pub earlier_by : Act → ℕ
earlier_by (Behind k) = k
earlier_by _ = 0

-- what the act answers where the reference gives this time: from the time less the uncertainty to the time and the
-- uncertainty, both ends moved as the act does, and then cut at 0 and at the greatest time (a difference of these
-- numbers is never below 0)
abbrev pub span_played : ℕ → Act → ℕ → Interval
span_played uncertainty act time = record {
  lo = cut (time + later_by act - (uncertainty + earlier_by act));
  hi = cut (time + uncertainty + later_by act - earlier_by act);
}
