-- The ends of each source are found.
use Rattle.std.proofs.Common.{◌≡◌, ℕ, ◌+◌, ◌<◌, List, Option, None, get_or, length, set, arith, ◌∙◌, length-set}
use Rattle.std.proofs.lemmas.List.Edits.{fill_by_more}
use Rattle.std.proofs.lemmas.List.FromFn.{fill_by_all}
use Rattle.tt_span.specs.Interval.{Interval}
use Rattle.tt_telemetry.specs.Records.{ends_at, ends_of}
use Rattle.tt_telemetry.specs.declared.records.Ends.{Ends}
use Rattle.tt_telemetry.proofs.records.ends_of.Goals as goal

more : (spans : List Interval) (fused : Interval) (ends : List (Option Ends)) (i : ℕ) (e : Option Ends) → i < length ends → e ≡ ends_at spans fused i
    → ((k : ℕ) → k < i → get_or ends k None ≡ ends_at spans fused k)
    → (k : ℕ) → k < i + 1 → get_or (set ends i e) k None ≡ ends_at spans fused k
more spans fused ends i e inside is made k lt = rw is (fill_by_more (ends_at spans fused) ends i None inside made k lt)

pub loop-source-preserved : goal.loop-source-preserved
loop-source-preserved c = record {
  made = more c.args.spans.now c.args.fused.now _ _ _ (omega (arith, c.loop-source.invariant.long, c.loop-source-test.true)) c.ends_at.ensures.value c.loop-source.invariant.made;
  long = length-set c.loop-source.ends c.loop-source.source c.ends_at.result ∙ c.loop-source.invariant.long;
}

pub returns : goal.returns
unfolding ends_of
returns c = record {
  value = fill_by_all (ends_at c.args.spans.now c.args.fused.now) c.loop-source.ends 16 None c.loop-source.invariant.long (λ k lt. c.loop-source.invariant.made k (omega (arith, lt, c.loop-source-test.false)));
}
