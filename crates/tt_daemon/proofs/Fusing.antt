-- What a fusion that refuses nothing but want of a possible time answers.
use Rattle.std.proofs.Common.{◌≡◌, ℕ, List, length, refl, ap, subst, arith}
use Rattle.std.specs.Prelude.{Some, None, Result, Ok, Err, IsOk, IfOk, IfErr, IsErrOf, MatchResult, ◌↔◌}
use Rattle.std.proofs.lemmas.Bool.{false≢true}
use Rattle.tt_span.specs.Interval.{Interval}
use Rattle.tt_fuse.specs.Fusion.{IsPossibleTime, IsFusion, HasNoPossibleTime, CanBeFused}
use Rattle.tt_fuse.specs.Depth.{slow_fusion}
use Rattle.std.proofs.Math.ListN.{length-map}
use Rattle.tt_source.specs.Table.{SourceState, stated_at}
use Rattle.tt_daemon.specs.Daemon.{DaemonState, IsDaemon, spans_of}
use Rattle.tt_daemon.specs.Publication.{Publication, IsPublication}

-- a daemon has as many spans as can be fused
pub spans-can_be_fused : (d : DaemonState) (clock : ℕ) → IsDaemon d → CanBeFused (length (spans_of d clock)) d.config.faulty
spans-can_be_fused d clock valid =
    let count = length-map d.table.sources (λ (source : SourceState). stated_at d.config.drift source.statement clock) in
    let configuration = valid.configuration in
    record {
      some = omega (arith, valid.each_source, configuration.some_source);
      not_too_many = omega (arith, valid.each_source, configuration.not_too_many);
      enough = omega (arith, valid.each_source, configuration.enough);
    }

module _ (spans : List Interval) (f clock : ℕ) where
  module _ {E : Type 0} (no_point : E) where
    -- a fusion of these spans, made at this clock reading, or the refusal, since no time is possible
    abbrev pub IsMade : Result Publication E → Type 0
    IsMade r =
        MatchResult r (λ p. (p.clock ≡ clock) × (p.spans ≡ spans) × (p.faulty ≡ f) × IsPublication p)
        (λ e. (e ≡ no_point) × HasNoPossibleTime spans f)

    -- what its clauses say
    pub record IsAnswer (r : Result Publication E) : Type 0 where
      pub fused : IfOk r (λ p. IsFusion spans f p.span)
      pub none : IfErr r (λ e. (e ≡ no_point) × HasNoPossibleTime spans f)

    pub made-answer : (r : Result Publication E) → IsMade r → IsAnswer r
    made-answer (Err e) none = record { fused = tt; none = none }
    made-answer (Ok p) m = record {
      fused = subst (λ (g : ℕ). IsFusion spans g p.span) m.2 (subst (λ (ss : List Interval). IsFusion ss p.faulty p.span) m.1 m.3.fused);
      none = tt;
    }

    pub refused-none : (r : Result Publication E) → IsAnswer r → IsErrOf r no_point ↔ HasNoPossibleTime spans f
    refused-none (Ok p) a = (λ h. absurd (cc), λ none. absurd (none a.fused.possible.0 a.fused.possible.1))
    refused-none (Err e) a = let same = a.none.0 in (λ h. a.none.1, λ none. ap Err same)

    pub answered-some : (r : Result Publication E) → IsAnswer r → IsOk r ↔ ((x : ℕ) × IsPossibleTime spans f x)
    answered-some (Ok p) a = (λ h. a.fused.possible, λ h. refl)
    answered-some (Err e) a = (λ h. absurd (false≢true h), λ h. absurd (a.none.1 h.0 h.1))

    -- the fusion is the one that a slow search finds, or that finds none
    pub match-slowly : (r : Result Publication E) → IsAnswer r → ((i : Interval) → IsFusion spans f i ↔ (slow_fusion spans f ≡ Some i)) → HasNoPossibleTime spans f ↔ (slow_fusion spans f ≡ None) →
        MatchResult r (λ p. slow_fusion spans f ≡ Some p.span) (λ e. (e ≡ no_point) × (slow_fusion spans f ≡ None))
    match-slowly (Ok p) a found none = (found p.span).0 a.fused
    match-slowly (Err e) a found none = (a.none.0, none.0 a.none.1)
