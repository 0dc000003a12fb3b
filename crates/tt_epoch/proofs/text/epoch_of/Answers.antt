use Rattle.std.proofs.Common.{[], ◌∷◌, Some}
use Rattle.std.proofs.lemmas.Bool.Decides.{Decides-eqb}
use Rattle.std.proofs.lemmas.Slice.Eq.{strip_prefix_is, strip_suffix_is}
use Rattle.tt_epoch.specs.Text.{head}
use Rattle.tt_epoch.proofs.Spelling.{read-body}
use Rattle.tt_epoch.proofs.text.epoch_of.Goals as goal

pub returns : goal.returns
returns c =
    let front = strip_prefix_is Decides-eqb c.args.text.now head (Some c.in_ok-rest.rest) c.in_ok-rest.ensures.cases in
    let back = strip_suffix_is Decides-eqb c.in_ok-rest.rest.now (10 ∷ []) (Some c.in_ok-digits.digits) c.in_ok-digits.ensures.cases in
    record { read = read-body c.args.text.now c.in_ok-rest.rest.now c.in_ok-digits.digits.now front back c.number_of.result c.number_of.ensures.read }
