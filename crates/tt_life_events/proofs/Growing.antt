-- What a step publishes.
use Rattle.std.proofs.Common.{◌≡◌, ℕ, ◌-◌, Bool, true, false, cond, List, [], ◌∷◌, ◌++◌, Option, Some, None, Result, Ok, Err, inl, inr, refl, sym, ap, ltb}
use Rattle.std.specs.Prelude.{◌⊎◌}
use Rattle.tt_span.specs.Interval.{Interval}
use Rattle.tt_fuse.specs.Depth.{slow_fusion}
use Rattle.tt_source.specs.Table.{TableState, is_back, known_of, poll_of, take_of}
use Rattle.tt_source.specs.declared.faults.SourceFault.{SourceFault}
use Rattle.tt_daemon.specs.Daemon.{spans_of}
use Rattle.tt_daemon.specs.declared.faults.DaemonFault.{DaemonFault}
use Rattle.tt_daemon.specs.declared.faults.DaemonFault.TheVariants as daemon
use Rattle.tt_publish.specs.declared.readings.FusedSpan.{FusedSpan}
use Rattle.tt_rounds.specs.Fusing.{Fusion, fusion_at, fusion_found}
use Rattle.tt_consistency.specs.Steps.{Fuses, Kept, Polls, Step, Takes, after_step, fused_span, with_fusion, with_table}
use Rattle.tt_consistency.specs.Timeline.{clock_of_step}

-- a step publishes nothing, or one fusion at its clock reading
abbrev pub Grows : ℕ → Kept → Kept → Type 0
Grows clock before after =
    (after.published ≡ before.published) ⊎ ((made : FusedSpan) × (made.clock ≡ clock) × (after.published ≡ before.published ++ made ∷ []))

found-clock : (clock faulty : ℕ) (spans : List Interval) (back few : Bool) (o : Option Interval) (fusion : Fusion)
    → cond back (Err daemon.ClockBack) (cond few (Err daemon.Unknown) (fusion_found clock spans faulty o)) ≡ Ok fusion → fusion.clock ≡ clock
found-clock clock faulty spans true few o fusion is = absurd cc
found-clock clock faulty spans false true o fusion is = absurd cc
found-clock clock faulty spans false false None fusion is = absurd cc
found-clock clock faulty spans false false (Some span) fusion is =
    let same : record { clock = clock; span = span; spans = spans; faulty = faulty } ≡ fusion = cc in
    ap (λ (f : Fusion). f.clock) (sym same)

table-grows : (clock : ℕ) (kept : Kept) (made : Result TableState SourceFault) → Grows clock kept (with_table kept made)
table-grows clock kept (Ok table) = inl refl
table-grows clock kept (Err fault) = inl refl

fusion-grows : (clock : ℕ) (kept : Kept) (made : Result Fusion DaemonFault) → fusion_at kept.daemon clock ≡ made → Grows clock kept (with_fusion kept made)
fusion-grows clock kept (Ok fusion) is =
    inr (
      fused_span fusion,
      found-clock clock kept.daemon.config.faulty (spans_of kept.daemon clock) (is_back kept.daemon.table clock)
          (ltb (known_of kept.daemon.table) (kept.daemon.config.sources - kept.daemon.config.faulty)) (slow_fusion (spans_of kept.daemon clock) kept.daemon.config.faulty) fusion is,
      refl,
    )
fusion-grows clock kept (Err fault) is = inl refl

pub step-grows : (kept : Kept) (step : Step) → Grows (clock_of_step step) kept (after_step kept step)
step-grows kept (Polls source clock) = table-grows clock kept (poll_of kept.daemon.table source clock)
step-grows kept (Takes source bytes clock) = table-grows clock kept (take_of kept.daemon.table source clock bytes)
step-grows kept (Fuses clock) = fusion-grows clock kept (fusion_at kept.daemon clock) refl
