use Rattle.tt_status.specs.Metric.{sample_text}
use Rattle.tt_status.proofs.metrics.push_sample.Goals as goal

pub returns : goal.returns
unfolding sample_text
returns c = c.push_labelled.ensures
