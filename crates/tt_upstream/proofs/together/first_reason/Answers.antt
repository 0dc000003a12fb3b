use Rattle.std.proofs.Common.{sym}
use Rattle.tt_upstream.proofs.Fusing.{reason-more, reason-found, reason-none, all-speak}
use Rattle.tt_upstream.proofs.together.first_reason.Goals as goal

pub loop-one-preserved : goal.loop-one-preserved
loop-one-preserved c = reason-more c.args.said.now c.loop-one.one-index c.one-item.result c.in_default.field-0 c.loop-one-test.true c.one-item.is c.in_default.is c.loop-one.invariant

pub returns-in-Err-clause-value : goal.returns-in-Err-clause-value
returns-in-Err-clause-value c = reason-found c.args.said.now c.loop-one.one-index c.one-item.result c.in-Err.silence c.loop-one-test.true c.one-item.is c.in-Err.is c.loop-one.invariant

pub returns-clause-value : goal.returns-clause-value
returns-clause-value c = reason-none c.args.said.now c.loop-one.one-index c.loop-one-test.false c.loop-one.invariant

pub returns-clause-all : goal.returns-clause-all
returns-clause-all c = λ none. all-speak c.args.said.now (sym (reason-none c.args.said.now c.loop-one.one-index c.loop-one-test.false c.loop-one.invariant))
