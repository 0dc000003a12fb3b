-- After ten breaks the pause does not grow any more.
use Rattle.std.proofs.Common.{◌≡◌, ◌∙◌, ℕ, zero, suc, ◌-◌, ◌*◌, ◌≤◌, min, inl, inr, ◌⊎◌, sym, ap, arith}
use Rattle.tt_health.specs.Pause.{doubled, longest_pause, pause_of}
use Rattle.tt_health.proofs.pauses.pause_before_start.Goals as goal

nine : (n : ℕ) → 8 ≤ n → (n ≡ 8) ⊎ (9 ≤ n)
nine n le = grind arith

late : (n : ℕ) → 9 ≤ n → doubled n ≡ longest_pause
late zero le = absurd (omega (arith, le))
late (suc n) le = elim (nine n (omega (arith, le))) [
  | inl is ↦ ap (λ (k : ℕ). min (2 * doubled k) longest_pause) is
  | inr more ↦ ap (λ (p : ℕ). min (2 * p) longest_pause) (late n more)
]

few_or_many : (n : ℕ) → (n ≤ 9) ⊎ (9 ≤ n)
few_or_many n = grind arith

-- nine doublings are enough
ended : (n k : ℕ) → k ≡ min n 9 → doubled k ≡ doubled n
ended n k is = elim (few_or_many n) [
  | inl few ↦ let same : k ≡ n = omega (arith, is, few) in ap doubled same
  | inr many ↦ let same : k ≡ 9 = omega (arith, is, many) in ap doubled same ∙ sym (late n many)
]

started : (breaks n : ℕ) → breaks ≡ suc n → doubled n ≡ pause_of breaks
started breaks n is = ap pause_of (sym is)

pub returns-clause-value : goal.returns-clause-value
returns-clause-value c =
    let n : ℕ = c.args.breaks - 1 in
    let k : c.loop-doubling._doubling ≡ min n 9 = omega (arith, c.min-doublings.ensures, c.loop-doubling-test.false, c.loop-doubling.auto._doubling-end) in
    c.loop-doubling.invariant.value ∙ ended n c.loop-doubling._doubling k ∙ started c.args.breaks n (omega (arith, c.if-breaks-eq0.false))
