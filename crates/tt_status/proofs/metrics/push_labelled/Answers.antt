use Rattle.std.proofs.Common.{rules, append_assoc}
use Rattle.tt_status.specs.Metric.{labelled_text}
use Rattle.tt_status.proofs.metrics.push_labelled.Goals as goal

pub returns : goal.returns
unfolding labelled_text
returns c = search (rules, append_assoc)
