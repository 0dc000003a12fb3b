use Rattle.std.proofs.Common.{rules, append_assoc}
use Rattle.tt_status.specs.Metric.{head_text}
use Rattle.tt_status.proofs.metrics.push_head.Goals as goal

pub returns : goal.returns
unfolding head_text
returns c = search (rules, append_assoc)
