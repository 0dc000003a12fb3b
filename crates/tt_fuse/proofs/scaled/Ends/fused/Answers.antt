use Rattle.std.proofs.Common.{◌+◌, ◌-◌, ◌*◌, ◌≤◌, List, length, sym, ap, subst, arith}
use Rattle.std.specs.Prelude.{ℤ, Some, None, All}
use Rattle.tt_span.specs.Time.{max_time}
use Rattle.tt_span.specs.Interval.{Interval}
use Rattle.tt_fuse.specs.Fusion.{IsFusion, HasNoPossibleTime}
use Rattle.tt_fuse.specs.Stated.{Stated, spans_at}
use Rattle.tt_fuse.specs.Scaled.{key_bound, key_number, keys_in}
use Rattle.tt_fuse.proofs.EndLists.{fusion-from_new}
use Rattle.tt_fuse.proofs.Walking.{AreAsked-of, lows-reached, highs-reached, highs-few}
use Rattle.tt_fuse.proofs.Pairing.{AreAsked-all, All-rest, rest-few, fusion-whole, fusion-from_key_slices}
use Rattle.tt_fuse.proofs.scaled.Ends.fused.Goals as goal

pub returns-then-lows-faulty-clause-fused : goal.returns-then-lows-faulty-clause-fused
returns-then-lows-faulty-clause-fused c = λ n enough few among.
    let s : Stated = record { drift = c.self.inside.drift; statements = c.self.inside.answers } in
    let asked = AreAsked-of s c.args.self.now c.args.clock n c.self.inside.lows c.self.inside.highs c.self.view_is c.self.invariant c.requires.got c.requires.in_time few among in
    let known : length (keys_in c.self.inside.lows) ≤ c.args.faulty = omega (arith, c.if-lows-faulty.true, ap length c.as_slice-lows.ensures.value) in
    subst (λ (i : Interval). IsFusion (spans_at c.args.self.now c.args.clock n) c.args.faulty i) (sym c.whole.ensures)
    (subst (λ (t : Stated). IsFusion (spans_at t c.args.clock n) c.args.faulty (record { lo = 0; hi = max_time })) c.self.view_is
    (fusion-whole s c.args.clock n c.args.faulty (keys_in c.self.inside.lows) (keys_in c.self.inside.highs) asked c.as_slice-lows.ensures.valid c.as_slice-highs.ensures.valid enough known))

pub first_and_last_at-requires-clause-enough : goal.first_and_last_at-requires-clause-enough
first_and_last_at-requires-clause-enough c =
    let s : Stated = record { drift = c.self.inside.drift; statements = c.self.inside.answers } in
    let asked = AreAsked-all s c.args.self.now c.args.clock c.self.inside.lows c.self.inside.highs c.self.view_is c.self.invariant c.requires.got c.requires.in_time in
    let rest = rest-few c.as_slice-lows.result.now (length c.as_slice-lows.result.now - 1 - c.args.faulty) in
    omega (arith, rest, highs-few s c.args.clock 16 (keys_in c.self.inside.lows) (keys_in c.self.inside.highs) asked, ap length c.as_slice-lows.ensures.value, ap length c.as_slice-highs.ensures.value)

pub first_and_last_at-requires-clause-starts_reached : goal.first_and_last_at-requires-clause-starts_reached
first_and_last_at-requires-clause-starts_reached c =
    let s : Stated = record { drift = c.self.inside.drift; statements = c.self.inside.answers } in
    let asked = AreAsked-all s c.args.self.now c.args.clock c.self.inside.lows c.self.inside.highs c.self.view_is c.self.invariant c.requires.got c.requires.in_time in
    All-rest (λ key. key_bound ≤ key_number key + c.args.clock * (1000000 - c.self.inside.drift)) (keys_in c.self.inside.lows) c.as_slice-lows.result.now (length c.as_slice-lows.result.now - 1 - c.args.faulty) c.as_slice-lows.ensures.value
    (lows-reached s c.args.clock 16 (keys_in c.self.inside.lows) (keys_in c.self.inside.highs) asked)

pub first_and_last_at-requires-clause-ends_reached : goal.first_and_last_at-requires-clause-ends_reached
first_and_last_at-requires-clause-ends_reached c =
    let s : Stated = record { drift = c.self.inside.drift; statements = c.self.inside.answers } in
    let asked = AreAsked-all s c.args.self.now c.args.clock c.self.inside.lows c.self.inside.highs c.self.view_is c.self.invariant c.requires.got c.requires.in_time in
    subst (λ (keys : List ℤ). All (λ key. key_bound ≤ key_number key + c.args.clock * (1000000 + c.self.inside.drift)) keys) (sym c.as_slice-highs.ensures.value)
    (highs-reached s c.args.clock 16 (keys_in c.self.inside.lows) (keys_in c.self.inside.highs) asked)

pub returns-in_err-lo-clause-fused : goal.returns-in_err-lo-clause-fused
returns-in_err-lo-clause-fused c = λ n enough few among.
    let s : Stated = record { drift = c.self.inside.drift; statements = c.self.inside.answers } in
    let asked = AreAsked-of s c.args.self.now c.args.clock n c.self.inside.lows c.self.inside.highs c.self.view_is c.self.invariant c.requires.got c.requires.in_time few among in
    let none : HasNoPossibleTime (spans_at s c.args.clock n) c.args.faulty =
    fusion-from_key_slices s c.args.clock n c.args.faulty (keys_in c.self.inside.lows) (keys_in c.self.inside.highs) c.as_slice-lows.result.now c.as_slice-highs.result.now asked c.as_slice-lows.ensures.valid c.as_slice-highs.ensures.valid enough c.if-lows-faulty.false c.as_slice-lows.ensures.value c.as_slice-highs.ensures.value None c.in_err-lo.ensures in
    rw c.from_residual.ensures (subst (λ (t : Stated). HasNoPossibleTime (spans_at t c.args.clock n) c.args.faulty) c.self.view_is none)

pub returns-clause-fused : goal.returns-clause-fused
returns-clause-fused c = λ n enough few among.
    let s : Stated = record { drift = c.self.inside.drift; statements = c.self.inside.answers } in
    let asked = AreAsked-of s c.args.self.now c.args.clock n c.self.inside.lows c.self.inside.highs c.self.view_is c.self.invariant c.requires.got c.requires.in_time few among in
    let found : IsFusion (spans_at s c.args.clock n) c.args.faulty (record { lo = c.in_ok-lo.lo; hi = c.in_ok-lo.hi }) =
    fusion-from_key_slices s c.args.clock n c.args.faulty (keys_in c.self.inside.lows) (keys_in c.self.inside.highs) c.as_slice-lows.result.now c.as_slice-highs.result.now asked c.as_slice-lows.ensures.valid c.as_slice-highs.ensures.valid enough c.if-lows-faulty.false c.as_slice-lows.ensures.value c.as_slice-highs.ensures.value (Some (c.in_ok-lo.lo, c.in_ok-lo.hi)) c.in_ok-lo.ensures in
    let fusion : IsFusion (spans_at c.args.self.now c.args.clock n) c.args.faulty (record { lo = c.in_ok-lo.lo; hi = c.in_ok-lo.hi }) =
    subst (λ (t : Stated). IsFusion (spans_at t c.args.clock n) c.args.faulty (record { lo = c.in_ok-lo.lo; hi = c.in_ok-lo.hi })) c.self.view_is found in
    rw c.ok.ensures.value (fusion-from_new (spans_at c.args.self.now c.args.clock n) c.args.faulty c.in_ok-lo.lo c.in_ok-lo.hi c.new.result fusion c.new.ensures.taken c.new.ensures.value)
