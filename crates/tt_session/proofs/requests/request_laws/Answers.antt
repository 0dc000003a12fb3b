use Rattle.tt_session.proofs.Spelling.{one_request as same_request}
use Rattle.tt_session.proofs.requests.request_laws.Goals as goal

pub returns : goal.returns
returns c = record { one_request = same_request }
