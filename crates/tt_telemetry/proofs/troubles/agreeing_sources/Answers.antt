-- Those that agree again are found among the suspects before, which are none where nothing was published.
use Rattle.std.proofs.Common.{ℕ, List, ap, ap₂, ◌∙◌, sym}
use Rattle.tt_telemetry.specs.Records.{numbers_where}
use Rattle.tt_telemetry.specs.Trouble.{agreeing, agrees_again}
use Rattle.tt_telemetry.proofs.troubles.agreeing_sources.Goals as goal

pub returns-in-Some : goal.returns-in-Some
returns-in-Some c = record {
  value = c.agreeing_among.ensures.value
      ∙ ap₂ (λ (before suspects : List ℕ). numbers_where (agrees_again before suspects) 16) c.suspects_in.ensures.value c.as_slice.ensures.value
      ∙ ap (agreeing c.args.last.now) (sym c.in-Some.is);
}
