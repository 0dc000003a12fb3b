use Rattle.std.proofs.Common.{◌≡◌, ◌+◌, ◌<◌, ℕ, take, set, length, sym, ap, subst, ◌∙◌, get_or, arith}
use Rattle.std.proofs.Math.ListN.{length-map}
use Rattle.std.proofs.lemmas.List.Elements.{All-set}
use Rattle.tt_span.specs.Interval.{IsInterval}
use Rattle.tt_source.specs.Table.{SourceState, stated_at, source_at}
use Rattle.tt_daemon.specs.Daemon.{DaemonState, spans_of}
use Rattle.tt_daemon.proofs.Spans.{take-set_span, aged-ok, get_or-spans}
use Rattle.tt_daemon.proofs.daemons.Daemon.spans_at.Goals as goal

pub loop-source-preserved : goal.loop-source-preserved
loop-source-preserved c =
    let d : DaemonState = record { config = c.self.inside.config; table = c.self.inside.table } in
    let i = c.loop-source.source in
    let v = c.unwrap.result in
    let in_table : i < length d.table.sources = omega (arith, c.sources-source-end.ensures.value) in
    let in_array : i < length c.loop-source.spans = omega (arith, c.sources-source-end.ensures.valid) in
    let in_all : i < length (spans_of d c.args.clock) = omega (arith, length-map d.table.sources (λ (source : SourceState). stated_at d.config.drift source.statement c.args.clock)) in
    let here : get_or (spans_of d c.args.clock) i v ≡ v =
    get_or-spans d.config.drift d.table.sources i c.args.clock v in_table
    ∙ ap (λ (n : ℕ). stated_at n (source_at d.table i).statement c.args.clock) (sym c.self.invariant.0.same_drift)
    ∙ aged-ok d.table i c.args.clock v (sym c.aged.ensures.value ∙ c.unwrap.ensures) in
    let step = subst (λ (e : DaemonState). take i c.loop-source.spans ≡ take i (spans_of e c.args.clock) → take (i + 1) (set c.loop-source.spans i v) ≡ take (i + 1) (spans_of e c.args.clock))
    c.self.view_is
    (λ before. take-set_span c.loop-source.spans (spans_of d c.args.clock) i v in_array in_all before here) in
    record {
      made = step c.loop-source.invariant.made;
      valid = All-set IsInterval _ _ _ (rw c.unwrap.ensures at c.aged.ensures.valid) c.loop-source.invariant.valid;
    }
