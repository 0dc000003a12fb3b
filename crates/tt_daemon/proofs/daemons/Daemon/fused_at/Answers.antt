use Rattle.std.proofs.Common.{◌≡◌, ◌<◌, ◌≤◌, ℕ, take, map, length, ap, sym, subst, ◌∙◌, List, arith}
use Rattle.std.specs.Prelude.{All}
use Rattle.std.proofs.lemmas.List.Elements.{All-take}
use Rattle.tt_span.specs.Interval.{Interval, IsInterval}
use Rattle.tt_fuse.specs.Fusion.{CanBeFused}
use Rattle.tt_daemon.specs.Daemon.{DaemonState, IsDaemon, spans_of}
use Rattle.tt_daemon.specs.declared.faults.DaemonFault.TheVariants.{NoPoint}
use Rattle.tt_source.specs.Table.{SourceState, stated_at}
use Rattle.tt_daemon.proofs.Following.{AreSpansAt-table}
use Rattle.tt_daemon.proofs.Fusing.{IsMade, IsAnswer, spans-can_be_fused, made-answer, refused-none, answered-some, match-slowly}
use Rattle.tt_daemon.proofs.daemons.Daemon.fused_at.Goals as goal

-- as many spans as can be fused
can_be_fused : (c : goal.After-of) → CanBeFused (length (spans_of c.args.self.now c.args.clock)) c.args.self.now.config.faulty
can_be_fused c = spans-can_be_fused c.args.self.now c.args.clock (subst IsDaemon c.self.view_is c.self.invariant.0)

-- the spans that are fused are the daemon's
same_spans : (c : goal.After-of) → take c.sources.result c.spans_at-all.result ≡ spans_of c.args.self.now c.args.clock
same_spans c =
    let count : c.sources.result ≡ length c.args.self.now.table.sources = c.sources.ensures.value ∙ ap (λ (d : DaemonState). length d.table.sources) c.self.view_is in
    ap (λ (k : ℕ). take k c.spans_at-all.result) count ∙ c.spans_at-all.ensures.value

-- a fusion of the daemon's spans, or there is none
answer : (c : goal.After-of) → IsAnswer (spans_of c.args.self.now c.args.clock) c.args.self.now.config.faulty c.args.clock NoPoint c.of.result
answer c =
    let same_faulty : c.faulty.result ≡ c.args.self.now.config.faulty = c.faulty.ensures.value ∙ ap (λ (d : DaemonState). d.config.faulty) c.self.view_is in
    let of_daemon : IsMade (spans_of c.args.self.now c.args.clock) c.args.self.now.config.faulty c.args.clock NoPoint c.of.result =
    subst (λ (f : ℕ). IsMade (spans_of c.args.self.now c.args.clock) f c.args.clock NoPoint c.of.result) same_faulty
    (subst (λ (ss : List Interval). IsMade ss c.faulty.result c.args.clock NoPoint c.of.result) (same_spans c) c.of.ensures) in
    made-answer _ _ c.args.clock NoPoint c.of.result of_daemon

-- the daemon's spans are intervals
intervals : (c : goal.After-of) → All IsInterval (spans_of c.args.self.now c.args.clock)
intervals c = subst (λ (ss : List Interval). All IsInterval ss) (same_spans c) (All-take IsInterval c.sources.result c.spans_at-all.result c.spans_at-all.ensures.valid)

-- fewer sources may lie than there are
fewer : (c : goal.After-of) → c.args.self.now.config.faulty < length (spans_of c.args.self.now c.args.clock)
fewer c = let can = can_be_fused c in omega (arith, can.enough)

pub returns-clause-no_point : goal.returns-clause-no_point
returns-clause-no_point c = refused-none _ _ c.args.clock NoPoint c.of.result (answer c)

pub returns-clause-answered : goal.returns-clause-answered
returns-clause-answered c = answered-some _ _ c.args.clock NoPoint c.of.result (answer c)

pub returns-clause-found_slowly : goal.returns-clause-found_slowly
returns-clause-found_slowly c =
    match-slowly _ _ c.args.clock NoPoint c.of.result (answer c)
    (λ i. c.fusion_laws.ensures.found_slowly _ _ i (intervals c) (fewer c))
    (c.fusion_laws.ensures.none_slowly _ _ (intervals c) (fewer c))

-- the ends speak of these spans
pub of-ends-requires : goal.of-ends-requires
of-ends-requires c =
    let d : DaemonState = record { config = c.self.inside.config; table = c.self.inside.table } in
    let count : c.sources.result ≡ length c.args.self.now.table.sources = c.sources.ensures.value ∙ ap (λ (d : DaemonState). length d.table.sources) c.self.view_is in
    let of_daemon : take c.sources.result c.spans_at-all.result ≡ spans_of c.args.self.now c.args.clock = ap (λ (k : ℕ). take k c.spans_at-all.result) count ∙ c.spans_at-all.ensures.value in
    let of_table : take c.sources.result c.spans_at-all.result ≡ map (λ source. stated_at d.table.drift source.statement c.args.clock) d.table.sources =
    of_daemon ∙ sym (ap (λ (e : DaemonState). spans_of e c.args.clock) c.self.view_is) ∙ sym (ap (λ (drift : ℕ). map (λ (source : SourceState). stated_at drift source.statement c.args.clock) d.table.sources) c.self.invariant.0.same_drift) in (
      c.args.clock,
      AreSpansAt-table d.table c.self.inside.ends c.args.clock (take c.sources.result c.spans_at-all.result) c.self.invariant.1 c.sources.ensures.valid
          (subst (λ (d : DaemonState). d.table.clock ≤ c.args.clock) (sym c.self.view_is) c.requires.not_back) c.requires.in_time of_table,
    )
