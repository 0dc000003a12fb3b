use Rattle.std.proofs.Common.{◌∙◌}
use Rattle.tt_upstream.proofs.Words.{among-passes, among-found, among-last, among-none}
use Rattle.tt_upstream.proofs.key_files.packet_key_of.Goals as goal

pub returns-in-Some-key_at : goal.returns-in-Some-key_at
returns-in-Some-key_at c = record { exact = among-found c.args.number c.lines.rest.now c.in-Some.line.now c.in-Some.more.now c.in-Some-key_at.key c.in-Some.ensures.0 c.in-Some.ensures.1 c.in-Some-key_at.ensures ∙ c.lines.invariant }

pub lines-preserved : goal.lines-preserved
lines-preserved c = among-passes c.args.number c.lines.rest.now c.in-Some.line.now c.in-Some.more.now c.in-Some.ensures.0 c.in-Some.ensures.1 c.in_default-key_at.ensures ∙ c.lines.invariant

pub returns-in-Some-key_at-2 : goal.returns-in-Some-key_at-2
returns-in-Some-key_at-2 c = record { exact = among-last c.args.number c.lines.rest.now c.in-Some-key_at-2.key c.in_default.ensures c.in-Some-key_at-2.ensures ∙ c.lines.invariant }

pub returns-in-None : goal.returns-in-None
returns-in-None c = record { exact = among-none c.args.number c.lines.rest.now c.in_default.ensures c.in-None.ensures ∙ c.lines.invariant }
