use Rattle.tt_keys.proofs.Parting.{one_key, no_key}
use Rattle.tt_keys.proofs.Adding.{one_list}
use Rattle.tt_keys.proofs.texts.keys_laws.Goals as goal

pub returns : goal.returns
returns c = record { one_key = one_key; no_key = no_key; one_list = one_list }
