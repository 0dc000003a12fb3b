use Rattle.std.proofs.Common.{◌≡◌, ℕ, ◌+◌, ◌-◌, ◌*◌, ◌/◌, ◌∙◌, subst}
use Rattle.tt_outline.specs.Rate.{GainsAtMost}
use Rattle.tt_outline.proofs.Rating.{gain_covers}
use Rattle.tt_outline.proofs.rates.gain_covered.Goals as goal

pub returns-clause-covers : goal.returns-clause-covers
returns-clause-covers c = λ d e h gained. gain_covers c.args.drift d e c.ppm.ensures.bound h
    (subst (λ (p : ℕ). GainsAtMost (p * 1000000000 / (1000000 - p)) d e) (c.from-ppm.ensures ∙ c.ppm.ensures.value) gained)
