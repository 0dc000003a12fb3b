use Rattle.tt_stamp.proofs.Forgetting.{IsLegalHistory-without, receipt_of-without, ids-without, stamps-without}
use Rattle.tt_stamp.proofs.books.forget_laws.Goals as goal

pub returns-clause-legal : goal.returns-clause-legal
returns-clause-legal c = λ past session. IsLegalHistory-without session past

pub returns-clause-receipts : goal.returns-clause-receipts
returns-clause-receipts c = λ past session id. receipt_of-without session past id

pub returns-clause-ids : goal.returns-clause-ids
returns-clause-ids c = λ past session id. ids-without session past id

pub returns-clause-stamps : goal.returns-clause-stamps
returns-clause-stamps c = λ past session stamp. stamps-without session past stamp
