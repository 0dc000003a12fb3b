use Rattle.std.proofs.Common.{◌≡◌, ℕ, ◌+◌, ◌-◌, ◌≤◌, ap, sym, subst, ◌∙◌, arith}
use Rattle.tt_span.specs.Time.{max_time, cut}
use Rattle.tt_span.specs.Interval.{Interval}
use Rattle.tt_span.specs.Drift.{widening}
use Rattle.tt_source.specs.Statement.{Statement, IsPossibleNow, uncut_low, uncut_high}
use Rattle.tt_source.proofs.Tightness.{Laws, low-is-possible, high-is-possible}
use Rattle.tt_source.proofs.statements.Statement.aged.Goals as goal
use Rattle.tt_source.proofs.statements.Statement.aged.Goals.{After-unwrap}

-- a time is not changed by the cut
cut-time : (x : ℕ) → x ≤ max_time → cut x ≡ x
cut-time x h = omega arith

-- what the proofs need of the widening
laws_of : (c : After-unwrap) → Laws c.args.drift (c.args.clock - c.self.inside.got)
laws_of c = record {
  rises = c.drift_laws.ensures.rises c.args.drift;
  subadditive = c.drift_laws.ensures.subadditive c.args.drift;
  bound = c.age_low-low.ensures.forward;
}

pub returns-clause-low_is_possible : goal.returns-clause-low_is_possible
returns-clause-low_is_possible c =
    let value = rw c.unwrap.ensures at c.new.ensures.value in
    let s : Statement = record { span = c.self.inside.span; sent = c.self.inside.sent; got = c.self.inside.got } in
    subst (λ (s : Statement). s.got - s.sent ≤ s.span.lo → uncut_low c.args.drift s c.args.clock ≤ max_time →
    IsPossibleNow c.args.drift s c.args.clock c.unwrap.result.lo) c.self.view_is
    (λ fits in_time.
    let low : c.unwrap.result.lo ≡ uncut_low c.args.drift s c.args.clock =
    ap (λ (i : Interval). i.lo) value ∙ c.age_low-low.ensures.value ∙ ap (λ (x : ℕ). cut (x + (c.args.clock - s.got) - widening c.args.drift (c.args.clock - s.got))) c.lo.ensures.value ∙ cut-time _ in_time in
    subst (λ (x : ℕ). IsPossibleNow c.args.drift s c.args.clock x) (sym low)
    (low-is-possible c.args.drift s c.args.clock (laws_of c) c.lo.ensures.valid.ordered c.self.invariant.ordered (omega arith) fits in_time))

pub returns-clause-high_is_possible : goal.returns-clause-high_is_possible
returns-clause-high_is_possible c =
    let value = rw c.unwrap.ensures at c.new.ensures.value in
    let s : Statement = record { span = c.self.inside.span; sent = c.self.inside.sent; got = c.self.inside.got } in
    subst (λ (s : Statement). uncut_high c.args.drift s c.args.clock ≤ max_time →
    IsPossibleNow c.args.drift s c.args.clock c.unwrap.result.hi) c.self.view_is
    (λ in_time.
    let high : c.unwrap.result.hi ≡ uncut_high c.args.drift s c.args.clock =
    ap (λ (i : Interval). i.hi) value ∙ c.age_high-high.ensures.value ∙ ap (λ (x : ℕ). cut (x + (c.args.clock - s.sent) + widening c.args.drift (c.args.clock - s.sent))) c.hi.ensures.value ∙ cut-time _ in_time in
    subst (λ (x : ℕ). IsPossibleNow c.args.drift s c.args.clock x) (sym high)
    (high-is-possible c.args.drift s c.args.clock (laws_of c) c.lo.ensures.valid.ordered c.self.invariant.ordered (omega arith) in_time))
