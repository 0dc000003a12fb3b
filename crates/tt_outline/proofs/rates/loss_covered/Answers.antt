use Rattle.std.proofs.Common.{◌≡◌, ℕ, ◌+◌, ◌*◌, ◌/◌, ◌∙◌, subst}
use Rattle.tt_outline.specs.Rate.{LosesAtMost}
use Rattle.tt_outline.proofs.Rating.{loss_covers}
use Rattle.tt_outline.proofs.rates.loss_covered.Goals as goal

pub returns-clause-covers : goal.returns-clause-covers
returns-clause-covers c = λ d e h lost. loss_covers c.args.drift d e h
    (subst (λ (p : ℕ). LosesAtMost (p * 1000000000 / (1000000 + p)) d e) (c.from-ppm.ensures ∙ c.ppm.ensures.value) lost)
