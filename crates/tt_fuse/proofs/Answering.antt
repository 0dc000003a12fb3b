-- What `fuse` answers, from what the least span is.
use Rattle.std.proofs.Common.{ℕ, ◌+◌, ◌*◌, ◌≤◌, List, length, refl}
use Rattle.std.specs.Prelude.{Option, Some, None, IsOk, IfOk, IsErrOf, MatchOption, ◌↔◌, Any}
use Rattle.std.specs.Option.{ok_or}
use Rattle.tt_span.specs.Interval.{Interval, Within}
use Rattle.tt_fuse.specs.Fusion.{IsPossibleTime, IsFusion, HasNoPossibleTime, CanBeFused, LiesWithinSomeOther}
use Rattle.tt_fuse.proofs.Overlap.{within-some, within-some_other}

module _ {E : Type 0} (e : E) (spans : List Interval) (f : ℕ) where
  -- the fusion, if some time is possible
  abbrev pub IsLeastSpan : Option Interval → Type 0
  IsLeastSpan o = MatchOption o (HasNoPossibleTime spans f) (λ i. IsFusion spans f i)

  pub refused-none : (o : Option Interval) → CanBeFused (length spans) f → IsLeastSpan o → IsErrOf (ok_or o e) e ↔ (CanBeFused (length spans) f × HasNoPossibleTime spans f)
  refused-none None can none = (λ _. (can, none), λ _. refl)
  refused-none (Some i) can m = (λ h. absurd (cc), λ h. absurd (h.1 m.possible.0 m.possible.1))

  pub answered-some : (o : Option Interval) → CanBeFused (length spans) f → IsLeastSpan o → IsOk (ok_or o e) ↔ (CanBeFused (length spans) f × ((x : ℕ) × IsPossibleTime spans f x))
  answered-some None can none = (λ h. absurd (cc), λ h. absurd (none h.1.0 h.1.1))
  answered-some (Some i) can m = (λ _. (can, m.possible), λ _. refl)

  pub within-source : (o : Option Interval) → CanBeFused (length spans) f → IsLeastSpan o → IfOk (ok_or o e) (λ i. Any (Within i) spans)
  within-source None can none = tt
  within-source (Some i) can m = within-some spans f i can.enough m

  pub within-right_source : (o : Option Interval) → IsLeastSpan o → 3 * f + 1 ≤ length spans → IfOk (ok_or o e) (λ i. LiesWithinSomeOther spans f i)
  within-right_source None none enough = tt
  within-right_source (Some i) m enough = within-some_other spans f i enough m
