use Rattle.tt_ntp.proofs.Ageing.{reply-holds}
use Rattle.tt_ntp.proofs.replies.aged_law.Goals as goal

pub returns : goal.returns
returns c = record { holds = reply-holds }
