use Rattle.std.proofs.Common.{◌≡◌, ◌+◌, ◌<◌, ◌≤◌, ◌⊎◌, inl, inr, length, get_or, min, subst, ◌∙◌, ap, ℕ, arith}
use Rattle.tt_cert.specs.Sweep.{count_before, IsNextCut}
use Rattle.tt_cert.proofs.Passing.{IsNextCut-from_min}
use Rattle.tt_cert.proofs.sweeping.next_cut.Goals as goal
use Rattle.tt_cert.proofs.sweeping.next_cut.Goals.{then-begun-lows, else-begun-lows, then-ended-highs, else-ended-highs}

pub returns : goal.returns
returns c =
    let lows = c.args.lows.now in
    let highs = c.args.highs.now in
    let begins : ℕ = c.if-begun-lows.begins in
    let after : ℕ = c.if-ended-highs.ends in
    let b : c.args.begun ≡ count_before lows (c.args.from + 1) = c.requires.begun_by in
    let e : c.args.ended ≡ count_before highs c.args.from = c.requires.ended_by in
    let low : ((count_before lows (c.args.from + 1) < length lows) × (begins ≡ get_or lows (count_before lows (c.args.from + 1)) 0)) ⊎ ((length lows ≤ count_before lows (c.args.from + 1)) × (begins ≡ c.args.stop)) =
    elim c.if-begun-lows.branch [
      | then-begun-lows w ↦ inl (omega (arith, w.if-begun-lows.true), w.begins-is ∙ ap (λ i. get_or lows i 0) b)
      | else-begun-lows w ↦ inr (omega (arith, w.if-begun-lows.false), w.begins-is)
    ] in
    let high : ((count_before highs c.args.from < length highs) × (after ≡ get_or highs (count_before highs c.args.from) 0 + 1)) ⊎ ((length highs ≤ count_before highs c.args.from) × (after ≡ c.args.stop)) =
    elim c.if-ended-highs.branch [
      | then-ended-highs w ↦ inl (omega (arith, w.if-ended-highs.true), w.ends-is ∙ ap (λ i. get_or highs i 0 + 1) e)
      | else-ended-highs w ↦ inr (omega (arith, w.if-ended-highs.false), w.ends-is)
    ] in
    let same : min (min begins after) c.args.stop ≡ c.min-2.result = omega (arith, c.min.ensures, c.min-2.ensures) in
    subst (λ (n : ℕ). IsNextCut lows highs c.args.from c.args.stop n) same (IsNextCut-from_min lows highs c.requires.ends c.args.from c.args.stop begins after c.requires.inside low high)
